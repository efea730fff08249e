use Rattle.std.proofs.Common.{ℕ, List, Option, ap, ◌∙◌}
use Rattle.std.specs.Prelude.{is_some}
use Rattle.eq_names.specs.Tables.{number_of}
use Rattle.eq_marks.specs.Answers.{meaning}
use Rattle.eq_marks.proofs.HeaderLemmas.{found_at}
use Rattle.eq_marks.proofs.headers.port_number.Goals as goal

pub returns-in-Some-clause-named : goal.returns-in-Some-clause-named
returns-in-Some-clause-named c =
    let ports = (meaning c.args.net.now).ports in
    let name = c.args.name.now in
    let is = c.in-Some.ensures ∙ ap (λ (ns : List (List ℕ)). number_of ns c.bytes.result.now) c.requires.names ∙ ap (λ
    (n : List ℕ). number_of ports n) c.bytes.ensures.bytes in
    c.port_at.ensures.named ∙ (found_at ports name c.in-Some.place is).1

pub returns-in-Some-clause-found : goal.returns-in-Some-clause-found
returns-in-Some-clause-found c =
    let ports = (meaning c.args.net.now).ports in
    let name = c.args.name.now in
    let is = c.in-Some.ensures ∙ ap (λ (ns : List (List ℕ)). number_of ns c.bytes.result.now) c.requires.names ∙ ap (λ
    (n : List ℕ). number_of ports n) c.bytes.ensures.bytes in
    ap (λ (o : Option ℕ). is_some o) is ∙ c.names_by_number.ensures ports name

pub returns-in-None-clause-found : goal.returns-in-None-clause-found
returns-in-None-clause-found c =
    let ports = (meaning c.args.net.now).ports in
    let name = c.args.name.now in
    let is = c.in-None.ensures ∙ ap (λ (ns : List (List ℕ)). number_of ns c.bytes.result.now) c.requires.names ∙ ap (λ
    (n : List ℕ). number_of ports n) c.bytes.ensures.bytes in
    ap (λ (o : Option ℕ). is_some o) is ∙ c.names_by_number.ensures ports name
