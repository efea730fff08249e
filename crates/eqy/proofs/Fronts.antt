-- What is added to the output piece by piece.
use Rattle.std.proofs.Common.{◌≡◌, ℕ, List, [], ◌++◌, take, drop, Option, None, Some, Result, Ok, Err, OnErr, append_assoc, append-nil, take-append-drop, refl, sym, ap, ◌∙◌}
use Rattle.std.specs.Option.{option_map}
use Rattle.eqy.specs.Output.{Adds, AddsFront}

joined : (old : Option (List ℕ)) (first rest : List ℕ) → option_map (λ bytes. bytes ++ rest) (option_map (λ bytes. bytes ++ first) old) ≡ option_map (λ bytes. bytes ++ (first ++ rest)) old
joined None first rest = refl
joined (Some bytes) first rest = ap Some (append_assoc bytes first rest)

adds_nothing : (old : Option (List ℕ)) → Adds old old []
adds_nothing None = refl
adds_nothing (Some bytes) = ap Some (sym (append-nil bytes))

pub adds_both : (old mid new : Option (List ℕ)) (first second : List ℕ) → Adds old mid first → Adds mid new second → Adds old new (first ++ second)
adds_both old mid new first second a b = b ∙ ap (option_map (λ bytes. bytes ++ second)) a ∙ joined old first second

-- nothing is a front
pub front_none : (old new : Option (List ℕ)) (text : List ℕ) → new ≡ old → AddsFront old new text
front_none old new text same = ([], text, refl, same ∙ adds_nothing old)

-- the whole is a front
pub front_whole : (old new : Option (List ℕ)) (text : List ℕ) → Adds old new text → AddsFront old new text
front_whole old new text adds = (text, [], append-nil text, adds)

-- the first bytes are a front
pub front_take : (old new : Option (List ℕ)) (text : List ℕ) (n : ℕ) → Adds old new (take n text) → AddsFront old new text
front_take old new text n adds = (take n text, drop n text, take-append-drop n text, adds)

-- a front of the first piece is one of both
pub front_first : (old new : Option (List ℕ)) (first second : List ℕ) → AddsFront old new first → AddsFront old new (first ++ second)
front_first old new first second front =
    (front.0, front.1 ++ second, sym (append_assoc front.0 front.1 second) ∙ ap (λ (t : List ℕ). t ++ second) front.2, front.3)

-- the first piece and a front of the second
pub front_second : (old mid new : Option (List ℕ)) (first second : List ℕ) → Adds old mid first → AddsFront mid new second → AddsFront old new (first ++ second)
front_second old mid new first second a front =
    (first ++ front.0, front.1, append_assoc first front.0 front.1 ∙ ap (λ (t : List ℕ). first ++ t) front.2, adds_both old mid new first front.0 a front.3)

pub on_err : {T E P Q : Type 0} (r : Result T E) → (P → Q) → OnErr r P → OnErr r Q
on_err (Ok x) f h = h
on_err (Err e) f h = f h
