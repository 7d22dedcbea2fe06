use Rattle.std.proofs.lemmas.Fn.{always_returns_same}
use Rattle.configfs_rows.proofs.ordered_rows.search.Goals as goal

pub returns : goal.returns
returns g c =
    let facts = c.binary_search_by.ensures in (
      facts.bound,
      facts.position (λ e. g.K.Ord.cmp e.0 c.args.key.now)
          (always_returns_same _ _ _ (λ a r f' k. (k.met.1, λ j. record { 0 = k.met.0 j }))),
    )
