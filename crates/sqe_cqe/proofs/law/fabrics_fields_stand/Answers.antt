use Rattle.sqe_cqe.proofs.Connects.{connect-stands, property-stands}
use Rattle.sqe_cqe.proofs.law.fabrics_fields_stand.Goals as goal

pub returns : goal.returns
returns c = record { connect = connect-stands; property = property-stands }
