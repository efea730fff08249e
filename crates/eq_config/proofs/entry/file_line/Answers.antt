use Rattle.std.proofs.Common.{ℕ, List, [], ◌∷◌, ◌++◌, ap, ◌∙◌, subst, sym}
use Rattle.std.specs.Prelude.{All}
use Rattle.std.proofs.lemmas.List.Elements.{All-push}
use Rattle.std.proofs.lemmas.Result.{err_from_is_err_and}
use Rattle.eq_config.specs.Lines.{words}
use Rattle.eq_config.specs.Words.{IsFileWord}
use Rattle.eq_config.specs.Entries.{IsFileLine}
use Rattle.eq_config.proofs.Refusals.{refuses_more, no_file_line, files_more}
use Rattle.eq_config.proofs.entry.file_line.Goals as goal

pub returns-in_err-file-clause-fault : goal.returns-in_err-file-clause-fault
returns-in_err-file-clause-fault c =
    let p = err_from_is_err_and c.from_residual.result c.from_residual.ensures.1 in
    rw (p.1, p.2)
    (refuses_more (IsFileWord c.in-Some.word.now) (IsFileLine (words c.args.line.now))
    (no_file_line (words c.args.line.now) c.loop-word.files (words c.in-Some.after.now) c.in-Some.word.now
    (c.loop-word.invariant.1 ∙ ap (λ ws. c.loop-word.files ++ ws) c.in-Some.ensures.word))
    c.in_err-file.field-0.0 c.in_err-file.ensures.fault)

pub loop-word-preserved : goal.loop-word-preserved
loop-word-preserved c =
    let word = c.in-Some.word.now in
    let more = c.in_ok-push.ensures.ok ∙ ap (λ name. c.loop-word.files ++ name ∷ []) c.in_ok-file.ensures.name in
    let P : List (List ℕ) → Type 0 = λ files. All IsFileWord files in (
      c.in-Some.ensures.rest,
      files_more (words c.args.line.now) c.loop-word.files (words c.loop-word.rest.now) (words c.in-Some.after.now) word c.loop-word.invariant.1 c.in-Some.ensures.word
          ∙ ap (λ files. files ++ words c.in-Some.after.now) (sym more),
      subst P (sym more) (All-push IsFileWord c.loop-word.files word c.loop-word.invariant.2 c.in_ok-file.ensures.file),
    )
