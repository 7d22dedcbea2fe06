-- What the editor's seat of a table with three seats keeps while it publishes the disk by other
-- numbers.
use Rattle.std.specs.Prelude.{◌≡◌, ◌<◌, length}
use Rattle.ref_state.specs.declared.state.Phase.TheVariants as phase
use Rattle.ref_state.specs.State.{total, drain}
use Rattle.table_rule.specs.declared.rule.Told.{Told}
use Rattle.table_rule.specs.Meant.{target}
use Rattle.table_rule.specs.Shown.{claims_of}
use Rattle.table_seats.specs.EndingMeans.{ending_means}

-- no drain is open, and the disk is live
pub record Publishes (v : Told) : Type 0 where
  pub number : v.view.number ≡ 0
  pub seats : v.seats ≡ 3
  pub claim : 0 < total (claims_of 0) v.claims
  pub calm : (target ending_means v.known).draining ≡ 0
  pub live : (drain v.notes 0).phase ≡ phase.Live
  pub marks : length v.notes.marks ≡ 3
