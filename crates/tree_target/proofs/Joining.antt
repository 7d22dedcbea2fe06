-- What joins the tree, the controllers and the queues, along edits and after fabrics commands.
use Rattle.std.proofs.Common.{◌≡◌, ℕ, zero, suc, ◌+◌, ◌<◌, ◌≤◌, true, List, [], ◌∷◌, ◌++◌, length, Option, Some, None, nat_lt, slice_index, slice_get, slice_set, refl, sym, ap, subst, ◌∙◌, arith}
use Rattle.std.specs.List.{AllByRecursion}
use Rattle.std.proofs.lemmas.List.{length-set, length-append, get_or-set_same}
use Rattle.sqe_cqe.specs.declared.controllers.Bound.{Bound}
use Rattle.sqe_cqe.specs.declared.controllers.Binding.{Binding}
use Rattle.sqe_cqe.specs.declared.controllers.ControllerRow.{ControllerRow}
use Rattle.configfs_rows.specs.declared.limits.TheConstants.{MAX_SUBSYSTEMS, MAX_PORTS}
use Rattle.configfs_rows.specs.declared.subsystems.SubsystemRow.{SubsystemRow}
use Rattle.configfs_tree.specs.declared.configuration.Attached.{Attached}
use Rattle.configfs_tree.specs.declared.configuration.Configuration.{Configuration}
use Rattle.configfs_tree.specs.Links.{one_more, subsystem_row, with_attached}
use Rattle.configfs_tree.specs.Stays.{is_subsystem_attached, is_port_attached, SubsystemAt, PortAt}
use Rattle.fabrics_connect.specs.declared.answer.Answer.{Answer}
use Rattle.fabrics_connect.specs.declared.answer.Answer.TheVariants.{Refused, Makes, Joins, Reads, Sets}
use Rattle.fabrics_connect.specs.Registers.{after_set}
use Rattle.fabrics_connect.specs.After.{AttachedAreThere, ctrl_at, new_controller, changed, changed_at, changed_bound, with_qid, controllers_after, tree_after, binding_after}
use Rattle.tree_target.specs.Joined.{IsAttached, AreJoined, one_if, connected}

-- ---- lists
pub all_get : {X : Type 0} (P : X → Type 0) (xs : List X) (i : ℕ) (x : X) → AllByRecursion P xs
    → slice_get xs i ≡ Some x → P x
all_get {X = X} P [] i x a e = absurd (none_some x e) where
  none_some : (x : X) → None ≡ Some x → ⊥
  none_some x e = cc
all_get {X = X} P (y ∷ xs) zero x a e = subst P (some_same y x e) a.0 where
  some_same : (y x : X) → Some y ≡ Some x → y ≡ x
  some_same y x e = cc
all_get P (y ∷ xs) (suc i) x a e = all_get P xs i x a.1 e

all_set : {X : Type 0} (P : X → Type 0) (xs : List X) (i : ℕ) (x : X) → AllByRecursion P xs → P x
    → AllByRecursion P (slice_set xs i x)
all_set P [] i x a p = tt
all_set P (y ∷ xs) zero x a p = (p, a.1)
all_set P (y ∷ xs) (suc i) x a p = (a.0, all_set P xs i x a.1 p)

all_last : {X : Type 0} (P : X → Type 0) (xs : List X) (x : X) → AllByRecursion P xs → P x
    → AllByRecursion P (xs ++ x ∷ [])
all_last P [] x a p = (p, tt)
all_last P (y ∷ xs) x a p = (a.0, all_last P xs x a.1 p)

all_to : {X : Type 0} (P Q : X → Type 0) (xs : List X) → ((x : X) → P x → Q x)
    → AllByRecursion P xs → AllByRecursion Q xs
all_to P Q [] f a = tt
all_to P Q (y ∷ xs) f a = (f y a.0, all_to P Q xs f a.1)

pub get_put : {X : Type 0} (xs : List X) (i : ℕ) (x y : X) → slice_get xs i ≡ Some y
    → slice_get (slice_set xs i x) i ≡ Some x
get_put {X = X} [] i x y e = absurd (none_some y e) where
  none_some : (y : X) → None ≡ Some y → ⊥
  none_some y e = cc
get_put (z ∷ xs) zero x y e = refl
get_put (z ∷ xs) (suc i) x y e = get_put xs i x y e

pub get_put_other : {X : Type 0} (xs : List X) (i j : ℕ) (x : X) → (j ≡ i → ⊥)
    → slice_get (slice_set xs i x) j ≡ slice_get xs j
get_put_other [] i j x ne = refl
get_put_other (z ∷ xs) zero zero x ne = absurd (ne refl)
get_put_other (z ∷ xs) zero (suc j) x ne = refl
get_put_other (z ∷ xs) (suc i) zero x ne = refl
get_put_other (z ∷ xs) (suc i) (suc j) x ne =
    get_put_other xs i j x (λ e. ne (ap (λ (n : ℕ). suc n) e))

pub put_same : {X : Type 0} (xs : List X) (i : ℕ) (x : X) → slice_get xs i ≡ Some x
    → slice_set xs i x ≡ xs
put_same [] i x e = refl
put_same {X = X} (z ∷ xs) zero x e = ap (λ (y : X). y ∷ xs) (some_same x z (sym e)) where
  some_same : (x z : X) → Some x ≡ Some z → x ≡ z
  some_same x z e = cc
put_same {X = X} (z ∷ xs) (suc i) x e = ap (λ (ys : List X). z ∷ ys) (put_same xs i x e)

-- ---- counts
positive : (n : ℕ) → nat_lt 0 (n + 1) ≡ true
positive n = grind arith

set_positive : (xs : List ℕ) (i v at : ℕ) → nat_lt 0 v ≡ true
    → nat_lt 0 (slice_index xs at) ≡ true → nat_lt 0 (slice_index (slice_set xs i v) at) ≡ true
set_positive [] i v at p h = h
set_positive (x ∷ xs) zero v zero p h = p
set_positive (x ∷ xs) zero v (suc at) p h = h
set_positive (x ∷ xs) (suc i) v zero p h = h
set_positive (x ∷ xs) (suc i) v (suc at) p h = set_positive xs i v at p h

new_positive : (xs : List ℕ) (i : ℕ) → i < length xs
    → nat_lt 0 (slice_index (one_more xs i) i) ≡ true
new_positive xs i h = ap (λ (n : ℕ). nat_lt 0 n)
    (get_or-set_same xs i (slice_index xs i + 1) 0 h) ∙ positive (slice_index xs i)

-- ---- trees in which no attached controller goes, and no row
pub record Grows (t u : Configuration) : Type 0 where
  pub subsystems : (at : ℕ) → is_subsystem_attached t at ≡ true → is_subsystem_attached u at ≡ true
  pub ports : (at : ℕ) → is_port_attached t at ≡ true → is_port_attached u at ≡ true
  pub named : (sub : List ℕ) (at : ℕ) → SubsystemAt t sub at → SubsystemAt u sub at
  pub numbered : (id at : ℕ) → PortAt t id at → PortAt u id at

same_grows : (t : Configuration) → Grows t t
same_grows t = record {
  subsystems = λ at h. h;
  ports = λ at h. h;
  named = λ sub at h. h;
  numbered = λ id at h. h;
}

attached_grows : (t : Configuration) (sub port : ℕ) → Grows t (with_attached t sub port)
attached_grows t sub port =
    let subs = t.settings.attached.subsystems in
    let ports = t.settings.attached.ports in
    record {
      subsystems = λ at h. set_positive subs sub (slice_index subs sub + 1) at
          (positive (slice_index subs sub)) h;
      ports = λ at h. set_positive ports port (slice_index ports port + 1) at
          (positive (slice_index ports port)) h;
      named = λ name at h. record { row = h.row; found = h.found; at_is = h.at_is };
      numbered = λ id at h. record { row = h.row; found = h.found; at_is = h.at_is };
    }

pub answer_grows : (t : Configuration) (a : Answer) → Grows t (tree_after t a)
unfolding tree_after
answer_grows t (Refused fault) = same_grows t
answer_grows t (Makes bound host) = attached_grows t bound.sub bound.port
answer_grows t (Joins bound) = same_grows t
answer_grows t (Reads value) = same_grows t
answer_grows t (Sets value) = same_grows t

-- ---- controllers
grown : (t u : Configuration) (c : ControllerRow) → Grows t u → IsAttached t c → IsAttached u c
grown t u c g a = record {
  sub = g.subsystems c.ctrl.bound.sub a.sub;
  port = g.ports c.ctrl.bound.port a.port;
}

new_bound : (bound : Bound) (s : Option SubsystemRow) → (ctrl_at bound s).bound ≡ bound
new_bound bound None = refl
new_bound bound (Some s) = refl

pub new_attached : (t : Configuration) (bound : Bound)
    → bound.sub < length t.settings.attached.subsystems
    → bound.port < length t.settings.attached.ports
    → (is_subsystem_attached (with_attached t bound.sub bound.port) bound.sub ≡ true)
    × (is_port_attached (with_attached t bound.sub bound.port) bound.port ≡ true)
new_attached t bound low high = (
  new_positive t.settings.attached.subsystems bound.sub low,
  new_positive t.settings.attached.ports bound.port high,
)

abbrev AttachedAt : Configuration → Bound → Type 0
AttachedAt t b = (is_subsystem_attached t b.sub ≡ true) × (is_port_attached t b.port ≡ true)

row_attached : (t u : Configuration) (bound : Bound) (host : List ℕ) → AttachedAt u bound
    → IsAttached u (new_controller t bound host)
row_attached t u bound host h =
    let same : bound ≡ (ctrl_at bound (subsystem_row t bound.sub)).bound =
    sym (new_bound bound (subsystem_row t bound.sub)) in
    record {
      sub = subst (λ (b : Bound). is_subsystem_attached u b.sub ≡ true) same h.0;
      port = subst (λ (b : Bound). is_port_attached u b.port ≡ true) same h.1;
    }

module _ (t : Configuration) (f : ControllerRow → ControllerRow)
    (same : (c : ControllerRow) → IsAttached t c → IsAttached t (f c)) where
  changed_at_attached : (cs : List ControllerRow) (n : ℕ) (o : Option ControllerRow)
      → slice_get cs n ≡ o → AllByRecursion (IsAttached t) cs
      → AllByRecursion (IsAttached t) (changed_at cs n f o)
  changed_at_attached cs n None e a = a
  changed_at_attached cs n (Some c) e a =
      all_set (IsAttached t) cs n (f c) a (same c (all_get (IsAttached t) cs n c a e))

  changed_attached : (cs : List ControllerRow) (n : ℕ) → AllByRecursion (IsAttached t) cs
      → AllByRecursion (IsAttached t) (changed cs n f)
  changed_attached cs zero a = a
  changed_attached cs (suc n) a = changed_at_attached cs n (slice_get cs n) refl a

  bound_attached : (cs : List ControllerRow) (b : Option Bound)
      → AllByRecursion (IsAttached t) cs → AllByRecursion (IsAttached t) (changed_bound cs b f)
  bound_attached cs None a = a
  bound_attached cs (Some b) a = changed_attached cs b.ctrl a

qid_same : (t : Configuration) (qid : ℕ) (c : ControllerRow) → IsAttached t c
    → IsAttached t (with_qid qid c)
qid_same t qid c a = record { sub = a.sub; port = a.port }

set_same : (t : Configuration) (v : ℕ) (c : ControllerRow) → IsAttached t c
    → IsAttached t (after_set v c)
unfolding after_set
set_same t v c a = record { sub = a.sub; port = a.port }

-- a new controller is attached at positions that the tree has
abbrev pub HasPositions : Configuration → Answer → Type 0
HasPositions t (Refused fault) = Unit {0}
HasPositions t (Makes bound host) = (bound.sub < length t.settings.attached.subsystems)
    × (bound.port < length t.settings.attached.ports)
HasPositions t (Joins bound) = Unit {0}
HasPositions t (Reads value) = Unit {0}
HasPositions t (Sets value) = Unit {0}

rows_attached : (t : Configuration) (cs : List ControllerRow) (b : Binding) (a : Answer)
    → HasPositions t a → AllByRecursion (IsAttached t) cs
    → AllByRecursion (IsAttached (tree_after t a)) (controllers_after t cs b a)
unfolding tree_after controllers_after
rows_attached t cs b (Refused fault) p all = all
rows_attached t cs b (Makes bound host) p all =
    let u = with_attached t bound.sub bound.port in
    all_last (IsAttached u) cs (new_controller t bound host)
    (all_to (IsAttached t) (IsAttached u) cs
    (λ c a. grown t u c (attached_grows t bound.sub bound.port) a) all)
    (row_attached t u bound host (new_attached t bound p.0 p.1))
rows_attached t cs b (Joins bound) p all =
    changed_attached t (with_qid bound.qid) (qid_same t bound.qid) cs bound.ctrl all
rows_attached t cs b (Reads value) p all = all
rows_attached t cs b (Sets value) p all =
    bound_attached t (after_set value) (set_same t value) cs b.bound all

-- ---- how many
changed_at_len : (cs : List ControllerRow) (n : ℕ) (f : ControllerRow → ControllerRow)
    (o : Option ControllerRow) → length (changed_at cs n f o) ≡ length cs
changed_at_len cs n f None = refl
changed_at_len cs n f (Some c) = length-set cs n (f c)

pub changed_len : (cs : List ControllerRow) (n : ℕ) (f : ControllerRow → ControllerRow)
    → length (changed cs n f) ≡ length cs
changed_len cs zero f = refl
changed_len cs (suc n) f = changed_at_len cs n f (slice_get cs n)

pub bound_len : (cs : List ControllerRow) (b : Option Bound) (f : ControllerRow → ControllerRow)
    → length (changed_bound cs b f) ≡ length cs
bound_len cs None f = refl
bound_len cs (Some b) f = changed_len cs b.ctrl f

connected_put : (bs : List Binding) (i : ℕ) (b c : Binding) → slice_get bs i ≡ Some b
    → connected (slice_set bs i c) + one_if b.bound ≡ connected bs + one_if c.bound
connected_put [] i b c e = absurd (none_some b e) where
  none_some : (b : Binding) → None ≡ Some b → ⊥
  none_some b e = cc
connected_put (d ∷ bs) zero b c e =
    let same : one_if b.bound ≡ one_if d.bound = ap (λ (x : Binding). one_if x.bound)
    (some_same b d (sym e)) in omega (arith, same) where
      some_same : (b d : Binding) → Some b ≡ Some d → b ≡ d
      some_same b d e = cc
connected_put (d ∷ bs) (suc i) b c e =
    let h = connected_put bs i b c e in omega (arith, h)

one_at_most : (b : Option Bound) → one_if b ≤ 1
one_at_most None = omega arith
one_at_most (Some b) = omega arith

all_connected : (bs : List Binding) → connected bs ≤ length bs
all_connected [] = omega arith
all_connected (b ∷ bs) =
    let h = all_connected bs in let one = one_at_most b.bound in omega (arith, h, one)

-- a queue that isn't connected leaves room for a controller of its own
pub one_unconnected : (bs : List Binding) (i : ℕ) (b : Binding) → slice_get bs i ≡ Some b
    → b.bound ≡ None → connected bs + 1 ≤ length bs
one_unconnected bs i b e none =
    let c : Binding = record b { bound = Some (record { ctrl = 0; qid = 0; sub = 0; port = 0 }) } in
    let h = connected_put bs i b c e in
    let zero_if : one_if b.bound ≡ 0 = ap one_if none in
    let most = all_connected (slice_set bs i c) in
    let len = length-set bs i c in
    omega (arith, h, zero_if, most, len)

-- a queue that makes a controller wasn't connected
abbrev pub MakesFirst : Binding → Answer → Type 0
MakesFirst b (Refused fault) = Unit {0}
MakesFirst b (Makes bound host) = b.bound ≡ None
MakesFirst b (Joins bound) = Unit {0}
MakesFirst b (Reads value) = Unit {0}
MakesFirst b (Sets value) = Unit {0}

module _ (t : Configuration) (cs : List ControllerRow) (bs : List Binding) (i : ℕ) (b : Binding)
    (e : slice_get bs i ≡ Some b) (few : length cs ≤ connected bs) where
  few_same : (ds : List ControllerRow) → length ds ≡ length cs
      → length ds ≤ connected (slice_set bs i b)
  few_same ds len =
      let h = ap (λ (x : List Binding). connected x) (put_same bs i b e) in
      omega (arith, len, h, few)

  few_joined : (ds : List ControllerRow) (c : Binding) (bound : Bound) → length ds ≡ length cs
      → c.bound ≡ Some bound → length ds ≤ connected (slice_set bs i c)
  few_joined ds c bound len is =
      let h = connected_put bs i b c e in
      let one : one_if c.bound ≡ 1 = ap one_if is in
      let most = one_at_most b.bound in
      omega (arith, len, h, few, one, most)

  few_made : (ds : List ControllerRow) (c : Binding) (bound : Bound) → length ds ≡ length cs + 1
      → c.bound ≡ Some bound → b.bound ≡ None → length ds ≤ connected (slice_set bs i c)
  few_made ds c bound len is none =
      let h = connected_put bs i b c e in
      let one : one_if c.bound ≡ 1 = ap one_if is in
      let zero_if : one_if b.bound ≡ 0 = ap one_if none in
      omega (arith, len, h, few, one, zero_if)

  few_after : (a : Answer) → MakesFirst b a
      → length (controllers_after t cs b a) ≤ connected (slice_set bs i (binding_after b a))
  unfolding controllers_after binding_after
  few_after (Refused fault) first = few_same cs refl
  few_after (Makes bound host) first =
      few_made (cs ++ new_controller t bound host ∷ []) (record b { bound = Some bound }) bound
      (length-append cs (new_controller t bound host ∷ [])) refl first
  few_after (Joins bound) first =
      few_joined (changed cs bound.ctrl (with_qid bound.qid)) (record b { bound = Some bound })
      bound (changed_len cs bound.ctrl (with_qid bound.qid)) refl
  few_after (Reads value) first = few_same cs refl
  few_after (Sets value) first =
      few_same (changed_bound cs b.bound (after_set value))
      (bound_len cs b.bound (after_set value))

-- ---- lengths
abbrev Lengths : Configuration → Type 0
Lengths t = (length t.settings.attached.subsystems ≡ MAX_SUBSYSTEMS)
    × (length t.settings.attached.ports ≡ MAX_PORTS)

lengths_after : (t : Configuration) (a : Answer) → Lengths t → Lengths (tree_after t a)
unfolding tree_after
lengths_after t (Refused fault) h = h
lengths_after t (Makes bound host) h =
    let subs = t.settings.attached.subsystems in
    let ports = t.settings.attached.ports in (
      length-set subs bound.sub (slice_index subs bound.sub + 1) ∙ h.0,
      length-set ports bound.port (slice_index ports bound.port + 1) ∙ h.1,
    )
lengths_after t (Joins bound) h = h
lengths_after t (Reads value) h = h
lengths_after t (Sets value) h = h

-- ---- what joins them
pub joined_after : (t : Configuration) (cs : List ControllerRow) (bs : List Binding) (i : ℕ)
    (b : Binding) (a : Answer) → slice_get bs i ≡ Some b → AreJoined t cs bs → HasPositions t a
    → MakesFirst b a → AttachedAreThere (tree_after t a) (controllers_after t cs b a)
    → AreJoined (tree_after t a) (controllers_after t cs b a) (slice_set bs i (binding_after b a))
joined_after t cs bs i b a e j p first counted =
    let len = lengths_after t a (j.subsystems, j.ports) in
    record {
      subsystems = len.0;
      ports = len.1;
      counted = counted;
      attached = rows_attached t cs b a p j.attached;
      few = few_after t cs bs i b e j.few a first;
    }

pub joined_along : (t u : Configuration) (cs : List ControllerRow) (bs : List Binding)
    → u.settings.attached ≡ t.settings.attached → AreJoined t cs bs → AreJoined u cs bs
joined_along t u cs bs e j = record {
  subsystems = ap (λ (a : Attached). length a.subsystems) e ∙ j.subsystems;
  ports = ap (λ (a : Attached). length a.ports) e ∙ j.ports;
  counted = record {
    subsystems = λ at. subst (λ (a : Attached). slice_index a.subsystems at ≤ length cs) (sym e)
        (j.counted.subsystems at);
    ports = λ at. subst (λ (a : Attached). slice_index a.ports at ≤ length cs) (sym e)
        (j.counted.ports at);
  };
  attached = all_to (IsAttached t) (IsAttached u) cs (λ c a. record {
    sub = ap (λ (x : Attached). nat_lt 0 (slice_index x.subsystems c.ctrl.bound.sub)) e ∙ a.sub;
    port = ap (λ (x : Attached). nat_lt 0 (slice_index x.ports c.ctrl.bound.port)) e ∙ a.port;
  }) j.attached;
  few = j.few;
}
