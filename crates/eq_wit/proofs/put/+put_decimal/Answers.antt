use Rattle.std.proofs.Common.{◌≡◌, ℕ, ◌+◌, ◌/◌, ◌%◌, List, [], ◌∷◌, ◌++◌, ap, ◌∙◌, sym, arith}
use Rattle.std.proofs.lemmas.List.{append_assoc}
use Rattle.std.proofs.lemmas.Fmt.{decimal_digit, decimal_step}
use Rattle.std.specs.Fmt.{decimal}
use Rattle.eq_wit.proofs.put.+put_decimal.Goals as goal
use Rattle.eq_wit.proofs.put.+put_decimal.Goals.{then-number-ge10+in_ok-put_decimal, else-number-ge10}

pub returns : goal.returns
returns t c =
    let n = c.args.number in
    let out = c.args.out.now.items in
    let last : List ℕ = (48 + n % 10) ∷ [] in
    let pushed : c.push.new.self.items ≡ c.if-number-ge10.out.items ++ last = c.in_ok-push.ensures.items in
    elim c.if-number-ge10.branch [
      | then-number-ge10+in_ok-put_decimal w ↦
          let before : c.if-number-ge10.out.items ≡ out ++ decimal (n / 10) = cc (w.in_ok-put_decimal.ensures) in
          pushed ∙ ap (λ (x : List ℕ). x ++ last) before ∙ append_assoc out (decimal (n / 10)) last ∙ ap (λ (x : List ℕ). out ++ x) (sym (decimal_step n (omega arith) (omega arith)))
      | else-number-ge10 w ↦
          let same : n % 10 ≡ n = omega arith in
          let before : c.if-number-ge10.out.items ≡ out = cc in
          pushed ∙ ap (λ (x : List ℕ). x ++ last) before ∙ ap (λ (x : List ℕ). out ++ x) (ap (λ (k : ℕ). (48 + k) ∷ []) same ∙ sym (decimal_digit n (omega arith)))
    ]
