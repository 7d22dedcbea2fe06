-- What a fabrics command keeps: attached controllers are there, and a refusal leaves all.
use Rattle.std.proofs.Common.{◌≡◌, ◌≢◌, ◌≤◌, ◌+◌, ◌%◌, ◌^◌, ℕ, zero, suc, Bool, true, false, cond, not, ◌&&◌, ◌||◌, nat_lt, ◌==◌, IsTrue, List, [], ◌∷◌, ◌++◌, length, Option, Some, None, slice_index, slice_set, slice_get, refl, arith}
use Rattle.std.proofs.lemmas.List.{length-set, length-append}
use Rattle.configfs_tree.specs.Links.{one_more}
use Rattle.configfs_tree.specs.declared.configuration.Configuration.{Configuration}
use Rattle.sqe_cqe.specs.Sqe.{fctype_of}
use Rattle.sqe_cqe.specs.Connect.{is_long_property_of, property_offset_of, property_value_of}
use Rattle.sqe_cqe.specs.declared.sqe.Sqe.{Sqe}
use Rattle.sqe_cqe.specs.declared.codes.TheConstants.{SUCCESS, DATA_SGL_LENGTH_INVALID, INVALID_FIELD, PROPERTY_GET}
use Rattle.configfs_rows.specs.Nqns.{is_nqn}
use Rattle.configfs_rows.specs.Values.{is_short}
use Rattle.configfs_rows.specs.declared.limits.TheConstants.{MODEL_LEN}
use Rattle.fabrics_connect.specs.declared.registers.TheConstants.{OFFSET_CC}
use Rattle.fabrics_connect.specs.Checks.{accessed, property_answer, property_answer_at, read_answer, refused, set_answer}
use Rattle.sqe_cqe.specs.declared.controllers.Binding.{Binding}
use Rattle.sqe_cqe.specs.declared.controllers.Bound.{Bound}
use Rattle.sqe_cqe.specs.declared.controllers.ControllerRow.{ControllerRow}
use Rattle.fabrics_connect.specs.declared.answer.Answer.{Answer}
use Rattle.fabrics_connect.specs.declared.answer.Answer.TheVariants.{Refused, Makes, Joins, Reads, Sets}
use Rattle.fabrics_connect.specs.After.{AttachedAreThere, FitsAnswer, binding_after, completion_of, is_published, made_by, told_by, changed, changed_at, changed_bound, controllers_after, new_controller, tree_after, with_qid}
use Rattle.fabrics_connect.specs.Registers.{after_set, property_at}

set_le : (xs : List ℕ) (i v n at : ℕ) → ((k : ℕ) → slice_index xs k ≤ n) → v ≤ n + 1
    → slice_index (slice_set xs i v) at ≤ n + 1
set_le [] i v n at h le = let e = h at in omega (arith, e)
set_le (x ∷ xs) zero v n zero h le = le
set_le (x ∷ xs) zero v n (suc at) h le = let e = h (suc at) in omega (arith, e)
set_le (x ∷ xs) (suc i) v n zero h le = let e = h zero in omega (arith, e)
set_le (x ∷ xs) (suc i) v n (suc at) h le = set_le xs i v n at (λ k. h (suc k)) le

one_more_le : (counts : List ℕ) (i n at : ℕ) → ((k : ℕ) → slice_index counts k ≤ n)
    → slice_index (one_more counts i) at ≤ n + 1
one_more_le counts i n at h = let e =
    h i in set_le counts i (slice_index counts i + 1) n at h (omega (arith, e))

length-changed_at : (cs : List ControllerRow) (n : ℕ) (f : ControllerRow → ControllerRow)
    (o : Option ControllerRow)
    → length (changed_at cs n f o) ≡ length cs
length-changed_at cs n f None = refl
length-changed_at cs n f (Some c) = length-set cs n (f c)

length-changed : (cs : List ControllerRow) (n : ℕ) (f : ControllerRow → ControllerRow)
    → length (changed cs n f) ≡ length cs
length-changed cs zero f = refl
length-changed cs (suc n) f = length-changed_at cs n f (slice_get cs n)

length-changed_bound : (cs : List ControllerRow) (b : Option Bound)
    (f : ControllerRow → ControllerRow)
    → length (changed_bound cs b f) ≡ length cs
length-changed_bound cs None f = refl
length-changed_bound cs (Some bound) f = length-changed cs bound.ctrl f

same_length : (t : Configuration) (cs ds : List ControllerRow) → length ds ≡ length cs
    → AttachedAreThere t cs
    → AttachedAreThere t ds
same_length t cs ds e a = record {
  subsystems = λ at. let h = a.subsystems at in omega (arith, h, e);
  ports = λ at. let h = a.ports at in omega (arith, h, e);
}

pub attached_kept : (t : Configuration) (cs : List ControllerRow) (b : Binding) (a : Answer)
    → AttachedAreThere t cs
    → AttachedAreThere (tree_after t a) (controllers_after t cs b a)
unfolding tree_after controllers_after
attached_kept t cs b (Refused fault) h = h
attached_kept t cs b (Makes bound host) h =
    let one : length (cs ++ new_controller t bound host ∷ [])
    ≡ length cs + 1 = length-append cs (new_controller t bound host ∷ []) in
    record {
      subsystems = λ at. let le =
          one_more_le t.settings.attached.subsystems bound.sub (length cs) at h.subsystems in omega
          (arith, le, one);
      ports = λ at. let le =
          one_more_le t.settings.attached.ports bound.port (length cs) at h.ports in omega
          (arith, le, one);
    }
attached_kept t cs b (Joins bound) h =
    same_length t cs (changed cs bound.ctrl (with_qid bound.qid))
    (length-changed cs bound.ctrl (with_qid bound.qid)) h
attached_kept t cs b (Reads value) h = h
attached_kept t cs b (Sets value) h =
    same_length t cs (changed_bound cs b.bound (after_set value))
    (length-changed_bound cs b.bound (after_set value)) h

-- a refusal leaves all
pub record Left (t : Configuration) (cs : List ControllerRow) (b : Binding) (e : Sqe) (a : Answer)
    : Type 0 where
  pub tree : tree_after t a ≡ t
  pub controllers : controllers_after t cs b a ≡ cs
  pub binding : binding_after b a ≡ b
  pub published : (told_by t cs b e a).published ≡ false
  pub made : (told_by t cs b e a).made ≡ None

pub left_by : (t : Configuration) (cs : List ControllerRow) (b : Binding) (e : Sqe) (a : Answer)
    → (told_by t cs b e a).cqe.status ≢ SUCCESS → Left t cs b e a
unfolding tree_after controllers_after binding_after is_published made_by told_by completion_of
left_by t cs b e (Refused fault) h =
    record { tree = refl; controllers = refl; binding = refl; published = refl; made = refl }
left_by t cs b e (Makes bound host) h = absurd (h refl)
left_by t cs b e (Joins bound) h = absurd (h refl)
left_by t cs b e (Reads value) h = absurd (h refl)
left_by t cs b e (Sets value) h = absurd (h refl)

-- ---- what is asked of properties can be done
fits_either : (t : Configuration) (cs : List ControllerRow) (b : Bool) (x y : Answer)
    → FitsAnswer t cs x → FitsAnswer t cs y
    → FitsAnswer t cs (cond b x y)
fits_either t cs true x y hx hy = hx
fits_either t cs false x y hx hy = hy

fits_read : (t : Configuration) (cs : List ControllerRow) (o : Option ℕ)
    → FitsAnswer t cs (read_answer o)
fits_read t cs None = tt
fits_read t cs (Some value) = tt

pub fits_property : (t : Configuration) (cs : List ControllerRow) (o : Option ControllerRow)
    (e : Sqe)
    → FitsAnswer t cs (property_answer_at o e)
unfolding property_answer
fits_property t cs None e = tt
fits_property t cs (Some c) e =
    fits_either t cs (not (e.sgl_len == 0)) (refused DATA_SGL_LENGTH_INVALID 0) (accessed c e) tt
    (fits_either t cs (fctype_of e == PROPERTY_GET)
    (read_answer (property_at c (is_long_property_of e) (property_offset_of e))) (set_answer e)
    (fits_read t cs (property_at c (is_long_property_of e) (property_offset_of e)))
    (fits_either t cs (is_long_property_of e || not (property_offset_of e == OFFSET_CC))
    (refused INVALID_FIELD 0) (Sets (property_value_of e % 2 ^ 32)) tt tt))

-- ---- texts of a subsystem
pub short_len : (value : List ℕ) (most : ℕ) → IsTrue (is_short value most) → length value ≤ most
short_len value most h = grind arith

pub nqn_len : (name : List ℕ) → IsTrue (is_nqn name) → length name ≤ 223
unfolding is_nqn
nqn_len name h = grind arith

pub model_len : (value : List ℕ) → IsTrue (is_short value MODEL_LEN && nat_lt 0 (length value))
    → length value ≤ 40
model_len value h = grind arith
