use Rattle.std.proofs.Common.{◌≡◌, ℕ, List, [], ◌∷◌, ◌++◌, subst, ap, ◌∙◌}
use Rattle.std.specs.Prelude.{OnOk, map}
use Rattle.eq_config.specs.Printing.{heading_line, ended, text_of, file_line, top_line, side_lines}
use Rattle.eq_config.proofs.Printed.{on_ok, section_and_line}
use Rattle.eq_config.proofs.print.put_side.Goals as goal

pub returns : goal.returns
returns c =
    let s = c.args.side.now in
    let title : List ℕ = c.args.title.now in
    let top = subst (λ (word : List ℕ). OnOk c.put_words.result
    (c.put_words.new.out ≡ c.put_files.new.out ++ ended (top_line word))) c.bytes.ensures.bytes
    c.put_words.ensures in
    let files : c.put_files.new.out ≡ c.put_title.new.out ++ text_of (map file_line s.files) =
    c.in_ok-put_files.ensures ∙ ap (λ (all : List (List ℕ)). c.put_title.new.out ++ text_of (map file_line all))
    c.as_slice.ensures in
    on_ok c.put_words.result (c.put_words.new.out ≡ c.put_files.new.out ++ ended (top_line s.top))
    (c.put_words.new.out ≡ c.args.out.now ++ text_of (side_lines title s))
    (section_and_line c.args.out.now c.put_title.new.out c.put_files.new.out c.put_words.new.out
    (heading_line (title ∷ [])) (top_line s.top) (map file_line s.files) c.in_ok-put_title.ensures files)
    top
