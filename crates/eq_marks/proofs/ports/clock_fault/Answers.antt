use Rattle.std.proofs.Common.{◌≡◌, List, ℕ, Option, Some, None, ap, sym, ◌∙◌}
use Rattle.std.specs.Prelude.{bytes_eq, option_copied}
use Rattle.eq_model.specs.Nets.{NetName}
use Rattle.eq_names.specs.Tables.{number_of}
use Rattle.eq_net.specs.Meaning.{if_there}
use Rattle.eq_marks.specs.Answers.{meaning}
use Rattle.eq_marks.specs.Ports.{clock_clash, first_port}
use Rattle.eq_marks.specs.inner.Comparing.{clock_port}
use Rattle.eq_marks.proofs.HeaderLemmas.{first_found}
use Rattle.eq_marks.proofs.ports.clock_fault.Goals as goal

pub returns-in-Some : goal.returns-in-Some
returns-in-Some c =
    let gold = meaning c.args.gold.now in
    let gate = meaning c.args.gate.now in
    let name = c.in-Some.name.now in
    let clash : Some name ≡ clock_clash gold gate gold.clock gate.clock = sym (ap (λ o. option_copied o) c.in-Some.is)
    ∙ c.in_ok-name.ensures in
    c.clock_port.ensures
    ∙ ap (λ o. clock_port o) (c.find.ensures ∙ ap (λ (ns : List (List ℕ)). number_of ns c.bytes.result.now)
    c.requires.gold_names
    ∙ ap (λ (n : List ℕ). number_of gold.ports n) c.bytes.ensures.bytes ∙ first_found gold.ports name
    ∙ ap (λ (o : Option NetName). if_there None (λ n. first_port (bytes_eq n) gold.ports) o) clash)
