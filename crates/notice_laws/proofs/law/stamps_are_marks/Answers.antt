use Rattle.notice_laws.proofs.Marking.{stamps_are_marks, raise_is_a_mark, start_is_sound, stamps_stay_sound}
use Rattle.notice_laws.proofs.law.stamps_are_marks.Goals as goal

pub returns-clause-marks : goal.returns-clause-marks
returns-clause-marks c = stamps_are_marks

pub returns-clause-start : goal.returns-clause-start
returns-clause-start c = start_is_sound

pub returns-clause-stay : goal.returns-clause-stay
returns-clause-stay c = stamps_stay_sound

pub returns-clause-raised : goal.returns-clause-raised
returns-clause-raised c = raise_is_a_mark
