-- A writer that takes a piece from its front on.
use Rattle.std.proofs.Common.{◌≡◌, ℕ, ◌+◌, List, Option, Some, None, take, drop, sym, ap, subst, ◌∙◌, append_assoc}
use Rattle.std.proofs.Math.Seq.{take-add}
use Rattle.std.specs.Io.KnownBytes.{Appends, Keeps}
use Rattle.std.specs.Prelude.{◌++◌}

joined : (a b c : Option (List ℕ)) (bs cs : List ℕ) → Appends a b bs → Appends b c cs → Appends a c (bs ++ cs)
joined None b c bs cs p q = tt
joined (Some x) None c bs cs p q = absurd p
joined (Some x) (Some y) None bs cs p q = absurd q
joined (Some x) (Some y) (Some z) bs cs p q = q ∙ ap (λ l. l ++ cs) p ∙ append_assoc x bs cs

-- after n bytes of the piece, m more
pub appends_more : (a b c : Option (List ℕ)) (n m k : ℕ) (piece : List ℕ)
    → Appends a b (take n piece) → Appends b c (take m (drop n piece)) → k ≡ n + m → Appends a c (take k piece)
appends_more a b c n m k piece p q e =
    subst (Appends a c) (sym (take-add n m piece) ∙ ap (λ i. take i piece) (sym e)) (joined a b c _ _ p q)

-- after n bytes of the piece, none
pub appends_kept : (a b c : Option (List ℕ)) (bs : List ℕ) → Appends a b bs → Keeps b c → Appends a c bs
appends_kept None b c bs p q = tt
appends_kept (Some x) None c bs p q = absurd p
appends_kept (Some x) (Some y) None bs p q = absurd q
appends_kept (Some x) (Some y) (Some z) bs p q = q ∙ p
