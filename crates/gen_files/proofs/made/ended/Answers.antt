use Rattle.std.proofs.Common.{Global}
use Rattle.std.proofs.lemmas.Str.{IsUtf8-string_bytes}
use Rattle.gen_files.proofs.made.ended.Goals as goal

pub returns-clause-text : goal.returns-clause-text
returns-clause-text c = rw (c.from_vec.ensures, c.into_bytes.ensures.value)
    (IsUtf8-string_bytes {Z = Global} c.push_str.new.self)
