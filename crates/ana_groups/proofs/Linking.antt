-- What a link in front of its group's chain makes of the chains of all groups.
use Rattle.std.proofs.Common.{◌≡◌, ◌≢◌, inl, inr, ℕ, ◌+◌, ◌≤◌, ◌<◌, nat_eq, true, false, List, length, set, get_or, sym, ap, ◌∙◌, subst, arith, get_or-set_same, get_or-set_other}
use Rattle.std.proofs.lemmas.Bool.Decides.{eqb_tells}
use Rattle.sqe_cqe.specs.Answers.{View}
use Rattle.sqe_cqe.specs.declared.rows.NsRow.{NsRow}
use Rattle.sqe_cqe.specs.declared.rows.Seen.TheVariants.{On}
use Rattle.sqe_cqe.specs.declared.rows.TheConstants.{MAX_NSID}
use Rattle.look_pages.specs.declared.list.Choice.TheVariants.{InGroup}
use Rattle.look_pages.specs.Chosen.{is_chosen, is_in}
use Rattle.ana_groups.specs.declared.members.Members.{Members}
use Rattle.ana_groups.specs.Chains.{those_above, IsChain, Holds, AreAbove}
use Rattle.ana_groups.proofs.Chains.{above_yes, above_no, chain_kept, chain_front}

-- one number of a list is replaced
set_within : (xs : List ℕ) (i x most : ℕ) → i < length xs → x ≤ most → ((k : ℕ) → get_or xs k 0 ≤ most)
    → (k : ℕ) → get_or (set xs i x) k 0 ≤ most
set_within xs i x most low small all k = elim (eqb_tells k i) [
  | inl here ↦ subst (λ (j : ℕ). get_or (set xs i x) j 0 ≤ most) (sym here.1) (rw (get_or-set_same xs i x 0 low) small)
  | inr other ↦ rw (get_or-set_other xs i k x 0 other.1) (all k)
]

-- the same chain, by other names
moved : {next next' : List ℕ} {at at' : ℕ} {list list' : List ℕ} → next' ≡ next → at' ≡ at → list' ≡ list
    → IsChain next at list → IsChain next' at' list'
moved {next} {next'} {at} {at'} {list} {list'} nexts ats lists chain =
    subst (λ (x : List ℕ). IsChain x at' list') (sym nexts)
    (subst (λ (x : ℕ). IsChain next x list') (sym ats) (subst (λ (x : List ℕ). IsChain next at x) (sym lists) chain))

module _ (v : View) (low count : ℕ) (m n : Members) (row : NsRow)
    (is_on : v.ns (low + 1) ≡ On row) (group : row.group ≤ 128) (nsid : low < MAX_NSID)
    (first_len : length m.first ≡ 129) (next_len : length m.next ≡ 2049) (counts_len : length m.counts ≡ 129)
    (next_is : n.next ≡ set m.next (low + 1) (get_or m.first row.group 0))
    (first_is : n.first ≡ set m.first row.group (low + 1))
    (counts_are : n.counts ≡ set m.counts row.group (get_or m.counts row.group 0 + 1))
    (above : AreAbove v (low + 1) count m) where
  chosen : (g : ℕ) → is_chosen (InGroup g) v (low + 1) ≡ nat_eq row.group g
  chosen g = ap (λ s. is_in s g) is_on

  -- the group of the NSID
  own : nat_eq row.group row.group ≡ true
      → Holds n row.group (those_above (is_chosen (InGroup row.group) v) low (count + 1))
  own same =
      let p = is_chosen (InGroup row.group) v in
      let old = above.groups row.group group in
      let one = above_yes p low count (chosen row.group ∙ same) in
      let starts : get_or (set m.first row.group (low + 1)) row.group 0 ≡ low + 1 = get_or-set_same m.first row.group (low + 1) 0 (omega (arith, group, first_len)) in
      let counted : get_or (set m.counts row.group (get_or m.counts row.group 0 + 1)) row.group 0 ≡ get_or m.counts row.group 0 + 1 =
      get_or-set_same m.counts row.group (get_or m.counts row.group 0 + 1) 0 (omega (arith, group, counts_len)) in
      record {
        chain = moved next_is (rw first_is starts) one (chain_front p low count m.next (get_or m.first row.group 0) (omega (arith, nsid, next_len)) old.chain);
        count = rw (one, counts_are, counted) (omega (arith, old.count));
      }

  -- another group
  other : (g : ℕ) → g ≤ 128 → nat_eq row.group g ≡ false → g ≢ row.group
      → Holds n g (those_above (is_chosen (InGroup g) v) low (count + 1))
  other g small apart ne =
      let p = is_chosen (InGroup g) v in
      let old = above.groups g small in
      let none = above_no p low count (chosen g ∙ apart) in
      let starts : get_or (set m.first row.group (low + 1)) g 0 ≡ get_or m.first g 0 = get_or-set_other m.first row.group g (low + 1) 0 ne in
      let counted : get_or (set m.counts row.group (get_or m.counts row.group 0 + 1)) g 0 ≡ get_or m.counts g 0 =
      get_or-set_other m.counts row.group g (get_or m.counts row.group 0 + 1) 0 ne in
      record {
        chain = moved next_is (rw first_is starts) none (chain_kept p (low + 1) count m.next (get_or m.first g 0) (low + 1) (get_or m.first row.group 0) (omega arith) old.chain);
        count = rw (none, counts_are, counted) old.count;
      }

  pub linked : AreAbove v low (count + 1) n
  linked = record {
    within = record {
      first = rw first_is (set_within m.first row.group (low + 1) MAX_NSID (omega (arith, group, first_len)) (omega (arith, nsid)) above.within.first);
      next = rw next_is (set_within m.next (low + 1) (get_or m.first row.group 0) MAX_NSID (omega (arith, nsid, next_len)) (above.within.first row.group) above.within.next);
    };
    groups = λ g small. elim (eqb_tells row.group g) [
      | inl here ↦ subst (λ (k : ℕ). Holds n k (those_above (is_chosen (InGroup k) v) low (count + 1))) here.1 (own (subst (λ (k : ℕ). nat_eq row.group k ≡ true) (sym here.1) here.0))
      | inr away ↦ other g small away.0 (λ e. away.1 (sym e))
    ];
  }
