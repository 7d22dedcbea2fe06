use Rattle.response_files.proofs.Beginning.{law}
use Rattle.response_files.proofs.law.malformed_bytes_begin_no_record.Goals as goal

pub returns : goal.returns
returns c = law
