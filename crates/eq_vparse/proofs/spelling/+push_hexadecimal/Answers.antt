use Rattle.std.proofs.Common.{◌≡◌, ℕ, ◌/◌, ◌%◌, List, [], ◌∷◌, ◌++◌, ap, ◌∙◌, sym, arith, false}
use Rattle.std.proofs.lemmas.List.{append_assoc}
use Rattle.std.specs.Fmt.{digits, digit_glyph}
use Rattle.eq_vparse.proofs.Spelled.{hexadecimal_last, hexadecimal_step}
use Rattle.eq_vparse.proofs.spelling.+push_hexadecimal.Goals as goal
use Rattle.eq_vparse.proofs.spelling.+push_hexadecimal.Goals.{then-number-ge16+in_ok-push_hexadecimal, else-number-ge16}

pub returns : goal.returns
returns t c =
    let n = c.args.number in
    let out = c.args.out.now in
    let last : List ℕ = digit_glyph false (n % 16) ∷ [] in
    let pushed : c.push.new.self ≡ c.if-number-ge16.out ++ last = c.in_ok-push.ensures.ok ∙ ap (λ (d : ℕ). c.if-number-ge16.out ++ d ∷ []) c.hexadecimal_digit.ensures in
    elim c.if-number-ge16.branch [
      | then-number-ge16+in_ok-push_hexadecimal w ↦
          let before : c.if-number-ge16.out ≡ out ++ digits 16 false (n / 16) = cc (w.in_ok-push_hexadecimal.ensures) in
          pushed ∙ ap (λ (x : List ℕ). x ++ last) before ∙ append_assoc out (digits 16 false (n / 16)) last ∙ ap (λ (x : List ℕ). out ++ x) (sym (hexadecimal_step n (omega arith) (omega arith)))
      | else-number-ge16 w ↦
          let before : c.if-number-ge16.out ≡ out = cc in
          pushed ∙ ap (λ (x : List ℕ). x ++ last) before ∙ ap (λ (x : List ℕ). out ++ x) (sym (hexadecimal_last n (omega arith)))
    ]
