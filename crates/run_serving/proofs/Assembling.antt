-- What the rounds of all queues come to, queue by queue.
use Rattle.std.proofs.Common.{◌≡◌, ◌<◌, ◌≤◌, ℕ, ◌+◌, true, false, List, [], ◌∷◌, ◌++◌, length, take, drop, None, refl, sym, ap, subst, ◌∙◌, append_assoc, arith}
use Rattle.std.proofs.Math.Seq.{take-append_seam, drop-append_seam}
use Rattle.std.proofs.lemmas.List.{append-nil, length-append}
use Rattle.std.proofs.lemmas.List.Concat.{flat_map-cons}
use Rattle.std.specs.List.{AllByRecursion, flat_map}
use Rattle.std.specs.List.Sorted.{IsPermutation}
use Rattle.std.proofs.lemmas.List.Sorted.{IsPermutation-refl}
use Rattle.plan_files.specs.Capsules.{Capsule}
use Rattle.tree_target.specs.Model.{Entry, Target}
use Rattle.tree_target.specs.Legal.{after}
use Rattle.run_transcript.specs.Runs.{Placed, Run, IsRising, placed_from, calls_of, target_after_all}
use Rattle.run_transcript.specs.InTurn.{rests}
use Rattle.run_transcript.specs.Turns.{Progress, nothing_done, progress_of, next_call}
use Rattle.run_transcript.specs.Served.{ServesFile, ServesQueues, bodies, body_of, finals, finals_of, front_len, fronts}
use Rattle.run_serving.specs.Goes.{AnySize, AreNext, EachStands, HasEnded, IsFrontLong, Round, all_of, joined, progress_after}
use Rattle.run_serving.proofs.Placing.{after-append, length-placed_from, placed_from-append, progress-placed}
use Rattle.run_serving.proofs.Pieces.{all_append, below_all, body_keeps, body_skips, finals_keep, finals_skip, is_rising, mixed, rises_from, rises_on, serves_piece}

-- an empty list for each file
abbrev pub nils : List (List Capsule) → List (List Placed)
nils [] = []
nils (file ∷ files) = [] ∷ nils files

-- ---- one queue
module _ (run : Run) (queue : ℕ) (file : List Capsule) (nF nR nP m : ℕ)
    (hF hR hP F R P restF restR restP : List Entry) (lenF : nF ≡ length hF) (lenR : nR ≡ length hR)
    (lenP : nP ≡ length hP) (isF : run.history ≡ hF ++ (F ++ restF))
    (isR : run.history ≡ hR ++ (R ++ restR)) (isP : run.history ≡ hP ++ (P ++ restP))
    (turnsF : AreNext false queue file nothing_done (after run.start (calls_of hF)) F)
    (turnsR : AreNext false queue file (progress_of (placed_from nF F))
    (after run.start (calls_of hR)) R)
    (turnsP : AreNext true queue file (progress_of (placed_from nF F ++ placed_from nR R))
    (after run.start (calls_of hP)) P)
    (ended : next_call (target_after_all run) queue file
    (progress_of ((placed_from nF F ++ placed_from nR R) ++ placed_from nP P)) ≡ None)
    (front : length F ≡ front_len file) (beforeR : nF + length F ≤ nR)
    (beforeP : nR + length R ≤ nP) where
  same1 : progress_of (placed_from nF F) ≡ progress_after nothing_done F
  same1 = progress-placed nothing_done [] nF F

  same2 : progress_of (placed_from nF F ++ placed_from nR R)
      ≡ progress_after (progress_after nothing_done F) R
  same2 = progress-placed nothing_done (placed_from nF F) nR R
      ∙ ap (λ (q : Progress). progress_after q R) same1

  same3 : progress_of ((placed_from nF F ++ placed_from nR R) ++ placed_from nP P)
      ≡ progress_after (progress_after (progress_after nothing_done F) R) P
  same3 = progress-placed nothing_done (placed_from nF F ++ placed_from nR R) nP P
      ∙ ap (λ (q : Progress). progress_after q P) same2

  tR : AreNext false queue file (progress_after nothing_done F) (after run.start (calls_of hR)) R
  tR = subst (λ (q : Progress). AreNext false queue file q (after run.start (calls_of hR)) R) same1
      turnsR

  tP : AreNext true queue file (progress_after (progress_after nothing_done F) R)
      (after run.start (calls_of hP)) P
  tP = subst (λ (q : Progress). AreNext true queue file q (after run.start (calls_of hP)) P) same2
      turnsP

  pieces : (placed_from nF F ++ placed_from nR R) ++ placed_from nP P
      ≡ placed_from nF F ++ (placed_from nR R ++ placed_from nP P)
  pieces = append_assoc (placed_from nF F) (placed_from nR R) (placed_from nP P)

  whole : placed_from nF F ++ (placed_from nR R ++ placed_from nP P)
      ≡ placed_from nF F ++ (placed_from nR R ++ (placed_from nP P ++ []))
  whole = ap (λ (x : List Placed). placed_from nF F ++ (placed_from nR R ++ x))
      (sym (append-nil (placed_from nP P)))

  pub serves_file : ServesFile run queue file nothing_done
      ((placed_from nF F ++ placed_from nR R) ++ placed_from nP P)
  serves_file =
      subst (λ (x : List Placed). ServesFile run queue file nothing_done x) (sym (pieces ∙ whole))
      (serves_piece run false queue file nothing_done hF F restF nF
      (placed_from nR R ++ (placed_from nP P ++ [])) isF lenF turnsF
      (serves_piece run false queue file (progress_after nothing_done F) hR R restR nR
      (placed_from nP P ++ []) isR lenR tR
      (serves_piece run true queue file (progress_after (progress_after nothing_done F) R) hP P restP
      nP [] isP lenP tP
      (ap (λ (q : Progress). next_call (target_after_all run) queue file q) (sym same3) ∙ ended))))

  pub front_is : take (front_len file) ((placed_from nF F ++ placed_from nR R) ++ placed_from nP P)
      ≡ placed_from nF F
  front_is =
      ap (λ (x : List Placed). take (front_len file) x) pieces
      ∙ ap (λ k. take k (placed_from nF F ++ (placed_from nR R ++ placed_from nP P)))
      (sym (length-placed_from nF F ∙ front))
      ∙ take-append_seam (placed_from nF F) (placed_from nR R ++ placed_from nP P)

  pub body_is : body_of file ((placed_from nF F ++ placed_from nR R) ++ placed_from nP P)
      ≡ placed_from nF F ++ placed_from nR R
  body_is =
      ap (λ (x : List Placed). body_of file x) (pieces ∙ whole)
      ∙ body_keeps queue file nothing_done (after run.start (calls_of hF)) nF F
      (placed_from nR R ++ (placed_from nP P ++ [])) turnsF
      ∙ ap (λ (x : List Placed). placed_from nF F ++ x)
      (body_keeps queue file (progress_after nothing_done F) (after run.start (calls_of hR)) nR R
      (placed_from nP P ++ []) tR
      ∙ ap (λ (x : List Placed). placed_from nR R ++ x)
      (body_skips queue file (progress_after (progress_after nothing_done F) R)
      (after run.start (calls_of hP)) nP P [] tP)
      ∙ append-nil (placed_from nR R))

  pub rest_is : drop (front_len file) (body_of file
      ((placed_from nF F ++ placed_from nR R) ++ placed_from nP P)) ≡ placed_from nR R
  rest_is =
      ap (λ (x : List Placed). drop (front_len file) x) body_is
      ∙ ap (λ k. drop k (placed_from nF F ++ placed_from nR R))
      (sym (length-placed_from nF F ∙ front))
      ∙ drop-append_seam (placed_from nF F) (placed_from nR R)

  pub final_is : finals_of file ((placed_from nF F ++ placed_from nR R) ++ placed_from nP P)
      ≡ placed_from nP P
  final_is =
      ap (λ (x : List Placed). finals_of file x) (pieces ∙ whole)
      ∙ finals_skip queue file nothing_done (after run.start (calls_of hF)) nF F
      (placed_from nR R ++ (placed_from nP P ++ [])) turnsF
      ∙ finals_skip queue file (progress_after nothing_done F) (after run.start (calls_of hR)) nR R
      (placed_from nP P ++ []) tR
      ∙ finals_keep queue file (progress_after (progress_after nothing_done F) R)
      (after run.start (calls_of hP)) nP P [] tP
      ∙ append-nil (placed_from nP P)

  pub rises : IsRising ((placed_from nF F ++ placed_from nR R) ++ placed_from nP P)
  rises =
      subst (λ (x : List Placed). IsRising x) (sym (pieces ∙ whole))
      (is_rising nF (placed_from nF F ++ (placed_from nR R ++ (placed_from nP P ++ [])))
      (rises_on nF F (placed_from nR R ++ (placed_from nP P ++ []))
      (rises_from (nF + length F) nR (placed_from nR R ++ (placed_from nP P ++ [])) beforeR
      (rises_on nR R (placed_from nP P ++ [])
      (rises_from (nR + length R) nP (placed_from nP P ++ []) beforeP
      (rises_on nP P [] tt))))))

-- ---- all queues from one on
pub record Assembled (run : Run) (queue : ℕ) (files : List (List Capsule))
    (lists : List (List Placed)) (F R P : List Placed) (m : ℕ) : Type 0 where
  pub serves : ServesQueues run queue files lists
  pub fronts_are : fronts files lists ≡ F
  pub rests_are : rests files lists ≡ R
  pub finals_are : finals files lists ≡ P
  pub early : AllByRecursion (λ (x : Placed). x.place < m) (bodies files lists)
  pub rising : AllByRecursion IsRising lists
  pub merged : IsPermutation (flat_map (λ (list : List Placed). list) lists) (F ++ (R ++ P))

history_here : (history h g G rest : List Entry) → history ≡ h ++ ((g ++ G) ++ rest)
    → history ≡ h ++ (g ++ (G ++ rest))
history_here history h g G rest is =
    is ∙ ap (λ (x : List Entry). h ++ x) (append_assoc g G rest)

history_on : (history h g G rest : List Entry) → history ≡ h ++ ((g ++ G) ++ rest)
    → history ≡ (h ++ g) ++ (G ++ rest)
history_on history h g G rest is =
    history_here history h g G rest is ∙ sym (append_assoc h g (G ++ rest))

len_on : (h g : List Entry) (n : ℕ) → n ≡ length h → n + length g ≡ length (h ++ g)
len_on h g n is = omega (arith, is, length-append h g)

round_on : (Size : List Capsule → ℕ → Type 0) (final : _) (queue : ℕ)
    (files : List (List Capsule)) (lists : List (List Placed)) (t : Target) (h g : List Entry)
    (G : List (List Entry)) → Round Size final queue files lists (after (after t (calls_of h))
    (calls_of g)) G → Round Size final queue files lists (after t (calls_of (h ++ g))) G
round_on Size final queue files lists t h g G r =
    subst (λ (x : Target). Round Size final queue files lists x G) (sym (after-append t h g)) r

joins : (n : ℕ) (g G : List Entry) (X : List Placed) (Y : List Placed)
    → X ≡ placed_from n g → Y ≡ placed_from (n + length g) G → X ++ Y ≡ placed_from n (g ++ G)
joins n g G X Y x y = rw (x, y) (sym (placed_from-append n g G))

pub assemble : (run : Run) (queue : ℕ) (files : List (List Capsule)) (nF nR nP m : ℕ)
    (hF hR hP restF restR restP : List Entry) (F R P : List (List Entry))
    → nF ≡ length hF → nR ≡ length hR → nP ≡ length hP
    → run.history ≡ hF ++ (all_of F ++ restF) → run.history ≡ hR ++ (all_of R ++ restR)
    → run.history ≡ hP ++ (all_of P ++ restP)
    → Round IsFrontLong false queue files (nils files) (after run.start (calls_of hF)) F
    → Round AnySize false queue files (joined nF (nils files) F) (after run.start (calls_of hR)) R
    → Round AnySize true queue files (joined nR (joined nF (nils files) F) R)
    (after run.start (calls_of hP)) P
    → EachStands HasEnded (target_after_all run) queue files
    (joined nP (joined nR (joined nF (nils files) F) R) P)
    → nF + length (all_of F) ≤ nR → nR + length (all_of R) ≤ nP → nR + length (all_of R) ≤ m
    → Assembled run queue files (joined nP (joined nR (joined nF (nils files) F) R) P)
    (placed_from nF (all_of F)) (placed_from nR (all_of R)) (placed_from nP (all_of P)) m
assemble run queue [] nF nR nP m hF hR hP restF restR restP [] [] [] lF lR lP iF iR iP rF rR rP e bR
    bP tR = record {
      serves = tt;
      fronts_are = refl;
      rests_are = refl;
      finals_are = refl;
      early = tt;
      rising = tt;
      merged = IsPermutation-refl [];
    }
assemble run queue [] nF nR nP m hF hR hP restF restR restP [] [] (p ∷ P) lF lR lP iF iR iP rF rR rP
    e bR bP tR = absurd rP
assemble run queue [] nF nR nP m hF hR hP restF restR restP [] (r ∷ R) P lF lR lP iF iR iP rF rR rP
    e bR bP tR = absurd rR
assemble run queue [] nF nR nP m hF hR hP restF restR restP (f ∷ F) R P lF lR lP iF iR iP rF rR rP e
    bR bP tR = absurd rF
assemble run queue (file ∷ files) nF nR nP m hF hR hP restF restR restP [] R P lF lR lP iF iR iP rF
    rR rP e bR bP tR = absurd rF
assemble run queue (file ∷ files) nF nR nP m hF hR hP restF restR restP (f ∷ F) [] P lF lR lP iF iR
    iP rF rR rP e bR bP tR = absurd rR
assemble run queue (file ∷ files) nF nR nP m hF hR hP restF restR restP (f ∷ F) (r ∷ R) [] lF lR lP
    iF iR iP rF rR rP e bR bP tR = absurd rP
assemble run queue (file ∷ files) nF nR nP m hF hR hP restF restR restP (f ∷ F) (r ∷ R) (p ∷ P) lF
    lR lP iF iR iP rF rR rP e bR bP tR =
    let hereF = history_here run.history hF f (all_of F) restF iF in
    let hereR = history_here run.history hR r (all_of R) restR iR in
    let hereP = history_here run.history hP p (all_of P) restP iP in
    let oneR : nF + length f ≤ nR = omega (arith, bR, length-append f (all_of F)) in
    let oneP : nR + length r ≤ nP = omega (arith, bP, length-append r (all_of R)) in
    let others = assemble run (queue + 1) files (nF + length f) (nR + length r) (nP + length p) m
    (hF ++ f) (hR ++ r) (hP ++ p) restF restR restP F R P (len_on hF f nF lF) (len_on hR r nR lR)
    (len_on hP p nP lP) (history_on run.history hF f (all_of F) restF iF)
    (history_on run.history hR r (all_of R) restR iR)
    (history_on run.history hP p (all_of P) restP iP)
    (round_on IsFrontLong false (queue + 1) files (nils files) run.start hF f F rF.3)
    (round_on AnySize false (queue + 1) files (joined (nF + length f) (nils files) F) run.start hR r R
    rR.3)
    (round_on AnySize true (queue + 1) files (joined (nR + length r) (joined (nF + length f)
    (nils files) F) R) run.start hP p P rP.3) e.1
    (omega (arith, bR, length-append f (all_of F)))
    (omega (arith, bP, length-append r (all_of R)))
    (omega (arith, tR, length-append r (all_of R))) in
    let A : List Placed = placed_from nF f in
    let B : List Placed = placed_from nR r in
    let C : List Placed = placed_from nP p in
    let lists : List (List Placed) = joined (nP + length p) (joined (nR + length r)
    (joined (nF + length f) (nils files) F) R) P in
    let F' : List Placed = placed_from (nF + length f) (all_of F) in
    let R' : List Placed = placed_from (nR + length r) (all_of R) in
    let P' : List Placed = placed_from (nP + length p) (all_of P) in
    record {
      serves = (
        serves_file run queue file nF nR nP m hF hR hP f r p (all_of F ++ restF) (all_of R ++ restR)
            (all_of P ++ restP) lF lR lP hereF hereR hereP rF.1 rR.1 rP.1 e.0 rF.2 oneR oneP,
        others.serves,
      );
      fronts_are = joins nF f (all_of F) _ _
          (front_is run queue file nF nR nP m hF hR hP f r p (all_of F ++ restF)
          (all_of R ++ restR) (all_of P ++ restP) lF lR lP hereF hereR hereP rF.1 rR.1 rP.1 e.0 rF.2
          oneR oneP) others.fronts_are;
      rests_are = joins nR r (all_of R) _ _
          (rest_is run queue file nF nR nP m hF hR hP f r p (all_of F ++ restF)
          (all_of R ++ restR) (all_of P ++ restP) lF lR lP hereF hereR hereP rF.1 rR.1 rP.1 e.0 rF.2
          oneR oneP) others.rests_are;
      finals_are = joins nP p (all_of P) _ _
          (final_is run queue file nF nR nP m hF hR hP f r p (all_of F ++ restF)
          (all_of R ++ restR) (all_of P ++ restP) lF lR lP hereF hereR hereP rF.1 rR.1 rP.1 e.0 rF.2
          oneR oneP) others.finals_are;
      early = all_append (λ (x : Placed). x.place < m) (body_of file ((A ++ B) ++ C))
          (bodies files lists)
          (subst (λ (x : List Placed). AllByRecursion (λ (y : Placed). y.place < m) x)
          (sym (body_is run queue file nF nR nP m hF hR hP f r p (all_of F ++ restF)
          (all_of R ++ restR) (all_of P ++ restP) lF lR lP hereF hereR hereP rF.1 rR.1 rP.1 e.0 rF.2
          oneR oneP))
          (all_append (λ (x : Placed). x.place < m) A B
          (below_all nF m f (omega (arith, oneR, tR)))
          (below_all nR m r (omega (arith, tR, length-append r (all_of R)))))) others.early;
      rising = (
        rises run queue file nF nR nP m hF hR hP f r p (all_of F ++ restF) (all_of R ++ restR)
            (all_of P ++ restP) lF lR lP hereF hereR hereP rF.1 rR.1 rP.1 e.0 rF.2 oneR oneP,
        others.rising,
      );
      merged =
          subst (λ (x : List Placed). IsPermutation x (placed_from nF (f ++ all_of F)
          ++ (placed_from nR (r ++ all_of R) ++ placed_from nP (p ++ all_of P))))
          (sym (flat_map-cons (λ (list : List Placed). list) ((A ++ B) ++ C) lists
          ∙ ap (λ (x : List Placed). x ++ flat_map (λ (list : List Placed). list) lists)
          (append_assoc A B C)))
          (rw (
            placed_from-append nF f (all_of F),
            placed_from-append nR r (all_of R),
            placed_from-append nP p (all_of P),
          )
          (mixed A B C F' R' P' (flat_map (λ (list : List Placed). list) lists) others.merged));
    }
