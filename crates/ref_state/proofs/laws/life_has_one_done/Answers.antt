use Rattle.ref_state.proofs.LivesKept.{dones_follow_lives, done_once_in_life, life_after_its_done}
use Rattle.ref_state.proofs.laws.life_has_one_done.Goals as goal

pub returns : goal.returns
returns c = record { runs = dones_follow_lives; once = done_once_in_life; before = life_after_its_done }
