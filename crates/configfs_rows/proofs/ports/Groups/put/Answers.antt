use Rattle.std.proofs.Common.{◌≡◌, ℕ, false, Some, None, IsSome, is_some, refl, ap, sym, subst, ◌∙◌}
use Rattle.std.specs.BTreeMap as tree
use Rattle.std.specs.Cmp.{nat_cmp_total}
use Rattle.std.specs.Ordering.{nat_cmp}
use Rattle.std.specs.BTreeMap.{BTreeMap}
use Rattle.std.specs.FinMap as map
use Rattle.std.specs.FinMap.{nat_cmp-IsAntisymmetric}
use Rattle.std.proofs.lemmas.Bool.{both_ways}
use Rattle.sqe_cqe.specs.declared.rows.Ana.{Ana}
use Rattle.configfs_rows.proofs.Seen.{seen_get, seen_put}
use Rattle.configfs_rows.proofs.ports.Groups.put.Goals as goal

pub returns-in-Some-clause-ok : goal.returns-in-Some-clause-ok
returns-in-Some-clause-ok c =
    let found : Some c.in-Some.row.now ≡ tree.get nat_cmp c.self.inside.rows c.args.group =
    rw c.in-Some.is at c.get_mut.ensures.value in
    rw (← c.self.view_is)
    (seen_put nat_cmp_total nat_cmp-IsAntisymmetric c.self.inside.rows
    (c.get_mut.follows.lender c.args.state) c.args.group c.args.state
    ((c.get_mut.follows.holds c.args.state).3 (subst (λ x. IsSome x) found refl)))

pub returns-clause-ok : goal.returns-clause-ok
returns-clause-ok c =
    rw (← c.self.view_is)
    (seen_put nat_cmp_total nat_cmp-IsAntisymmetric c.get_mut.follows.lender-at-none
    c.insert.new.self _ _ c.in_ok-insert.ensures.updates
    ∙ ap (λ (m : BTreeMap ℕ Ana). map.insert (map.from_entries {R =
    nat_cmp} m.entries) c.args.group c.args.state) c.get_mut.follows.holds-at-none)

-- a group that is made takes no memory
pub returns-in_err-insert-clause-made : goal.returns-in_err-insert-clause-made
returns-in_err-insert-clause-made c = λ made.
    let none : None ≡ tree.get nat_cmp c.self.inside.rows c.args.group =
    rw c.in_default.is at c.get_mut.ensures.value in
    let absent : map.contains_key c.args.self.now c.args.group ≡ false =
    rw (← c.self.view_is) (ap is_some (seen_get nat_cmp_total c.self.inside.rows c.args.group
    ∙ sym none)) in
    absurd (both_ways (map.contains_key c.args.self.now c.args.group) absent made)
