-- A run of what was read, and its prints.
use Rattle.std.proofs.Common.{◌≡◌, ℕ, List, [], ◌∷◌, map, refl, sym, ◌∙◌}
use Rattle.journal_text.specs.Text.{journal_text}
use Rattle.run_transcript.specs.declared.capsule_files.CapsuleFile.{CapsuleFile}
use Rattle.run_transcript.specs.declared.scripts.ScriptEdit.{ScriptEdit}
use Rattle.run_transcript.specs.Runs.{Placed, Run}
use Rattle.run_transcript.specs.Printing.{responses, summary}
use Rattle.run_inputs.specs.Known.{Known}
use Rattle.run_serving.specs.declared.output.Output.{Output}
use Rattle.run_serving.specs.declared.whole.Served.{Served}
use Rattle.run_serving.specs.Ran.{HoldRecords, IsPrintOf, Ran}
use Rattle.run_serving.specs.Readiness.{files_of}
use Rattle.run_prints.specs.Prints.{Makes}
use Rattle.run_prints.specs.Totals.{SummaryOf}

records_are : (outputs : List Output) (lists : List (List Placed)) → HoldRecords outputs lists
    → map (λ (o : Output). o.records.bytes) outputs ≡ map responses lists
records_are [] [] a = refl
records_are [] (list ∷ lists) a = absurd a
records_are (o ∷ os) [] a = absurd a
records_are (o ∷ os) (list ∷ lists) a = rw (a.0, records_are os lists a.1) refl

summary_is : (o : Served) (run : Run) (passed_over : ℕ) (text : List ℕ) → IsPrintOf o run
    → run.passed_over ≡ passed_over → SummaryOf o passed_over text → text ≡ summary run
unfolding summary
summary_is o run passed_over text p same x = x.is ∙ rw (
  p.places,
  p.accepted,
  p.refused,
  p.drains,
  x.are.submitted ∙ p.submitted,
  x.are.executed ∙ p.executed,
  x.are.refused ∙ p.commands_refused,
  x.are.events ∙ p.events,
  x.are.waiting ∙ p.waiting,
  x.are.taken ∙ p.taken,
  x.are.given ∙ p.given,
  same,
) refl

-- what serving made of what was read is a run of it
pub makes : (s : Known) (o : Served) (script : List ScriptEdit) (files : List CapsuleFile)
    (passed_over : ℕ) (written text : List ℕ) → s.script ≡ script → s.files ≡ files_of files
    → s.passed_over ≡ passed_over → Ran s.plan passed_over s.start script files o
    → written ≡ journal_text o.places o.journal.items → SummaryOf o passed_over text
    → Makes s (map (λ (x : Output). x.records.bytes) o.outputs.items) written text
makes s o script files passed_over written text same_script same_files same_count r is_written
    is_text = record {
      run = r.run;
      of = record {
        plan = r.plan_is;
        start = r.start_is;
        passed_over = r.passed_over_is ∙ sym same_count;
        script = r.script_is ∙ sym same_script;
        files = r.files_are ∙ sym same_files;
      };
      ordered = r.ordered;
      served = r.served;
      legal = r.legal;
      in_turn = r.in_turn;
      printed = record {
        records_are = records_are o.outputs.items r.run.queues r.printed.records;
        journal_is = is_written ∙ rw (r.printed.places, r.printed.journal) refl;
        summary_is = summary_is o r.run passed_over text r.printed r.passed_over_is is_text;
      };
    }
