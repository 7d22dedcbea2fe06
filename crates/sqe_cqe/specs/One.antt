-- What a configuration with one controller, one namespace and one ANA group answers.
use Rattle.std.specs.Prelude.{◌==◌, if◌then◌else◌}
use Rattle.sqe_cqe.specs.declared.rows.Seen.TheVariants.{NotConfigured}
use Rattle.sqe_cqe.specs.declared.rows.Ana.TheVariants.{Inaccessible}
use Rattle.sqe_cqe.specs.declared.rows.Offers.{Offers}
use Rattle.sqe_cqe.specs.declared.rows.TheConstants.{MAX_NSID}
use Rattle.sqe_cqe.specs.declared.one.OneRow.{OneRow}
use Rattle.sqe_cqe.specs.Answers.{Answers}

-- NSIDs up to 2,048, and Write Zeroes
abbrev pub plain_offers : Offers
plain_offers = record { nsids = MAX_NSID; oncs = 8; nwpc = 0; rescap = 0 }

-- one answer at every position, since there is one controller, one subsystem and one port
abbrev pub one_answers : OneRow → Answers
one_answers r = record {
  ready = λ c. r.ready;
  ns = λ s n. if n == 1 then r.seen else NotConfigured;
  ana = λ p g. if g == 1 then r.ana else Inaccessible;
  group_made = λ p g. g == 1;
  ns_stamp = λ s n. if n == 1 then r.ns_stamp else 0;
  ana_stamp = λ s p. r.ana_stamp;
  ana_count = r.ana_count;
  serial = r.serial;
  bars = λ c s n o. r.bars;
  offers = plain_offers;
  marks = λ s n. 0;
  group_count = λ p s g. r.ana_count;
}
