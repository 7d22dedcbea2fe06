use Rattle.std.proofs.Common.{◌≡◌, ◌+◌, ℕ, List, [], ◌++◌, ap, sym, ◌∙◌, append-nil}
use Rattle.std.proofs.lemmas.List.{append_assoc}
use Rattle.mem_bdev.specs.Texts.{Text, appended, with_bytes}
use Rattle.run_records.specs.Records.{head_bytes}
use Rattle.run_records.specs.declared.records.Kind.TheVariants as kinds
use Rattle.tree_target.specs.Kept.{job_bytes}
use Rattle.tree_target.specs.declared.calls.Reply.TheVariants as replies
use Rattle.run_transcript.specs.Printing.{head_of}
use Rattle.run_serving.proofs.calls.run_into.Goals as goal

-- two heads that are put at once, and then data, are two records
two_records : (t : Text) (s e b : List ℕ)
    → appended (appended t (s ++ e)) b ≡ appended (appended t (s ++ [])) (e ++ b)
two_records t s e b = ap (λ (l : List ℕ). with_bytes t l)
    (append_assoc t.bytes (s ++ e) b
    ∙ ap (λ (l : List ℕ). t.bytes ++ l) (append_assoc s e b)
    ∙ sym (append_assoc t.bytes s (e ++ b))
    ∙ ap (λ (l : List ℕ). (t.bytes ++ l) ++ (e ++ b)) (sym (append-nil s)))

pub returns-clause-appends : goal.returns-clause-appends
returns-clause-appends c =
    let n = c.args.number in
    rw (
      c.run_at_once.ensures.appends,
      c.put.ensures,
      c.both_heads.ensures,
      c.head-submitted.ensures,
      c.head-executed.ensures,
    ) (two_records c.args.to.now
    (head_bytes (head_of c.args.place kinds.Submit n replies.Held 0))
    (head_bytes (head_of (c.args.place + 1) kinds.Execute n c.success-reply.result
    c.host_len-given.result))
    (job_bytes c.args.target.now.blocks c.args.job.now))
