-- Sentences of rules of rules, taken apart and put together.
use Rattle.std.proofs.Common.{◌≡◌, Bool, true, List, [], ◌∷◌, map, refl, sym}
use Rattle.std.specs.List.{AllByRecursion}
use Rattle.std.proofs.lemmas.List.{append-nil}
use Rattle.eq_vlex.specs.declared.mark.Mark.TheVariants as mark
use Rattle.eq_vlex.specs.declared.token.TokenKind.{TokenKind}
use Rattle.eq_vlex.specs.declared.token.TokenKind.TheVariants as kind
use Rattle.eq_vparse.specs.Rules.{Rule, ◌>>=◌, AreMany, separated as separated_rule, mark as mark_rule}
use Rattle.eq_vparse.specs.Printing.{separated, more}
use Rattle.eq_vparse.proofs.LexedTokens.{AreLexed, lexed_split}
use Rattle.eq_vparse.proofs.Parts.{ArePrintable, printable_append, Part, separated_part}

-- ---- printable parts

pub record IsGood (O : TokenKind → Bool) (G : List TokenKind → Bool) (us : List TokenKind) : Type 0 where
  pub printable : ArePrintable us
  pub part : Part O G us

-- ---- one after the other

-- what holds of each value of a rule holds of each of many
pub each_of_many : {A : Type 0} (g : Rule A) (P : A → Type 0) → ((ts : List TokenKind) (a : A) → AreLexed ts → g.sentence ts a → P a) → (ts : List TokenKind) (all : List A) → AreLexed ts → AreMany g ts all → AllByRecursion P all
each_of_many g P each ts [] l h = tt
each_of_many g P each ts (a ∷ all) l h =
    let parts = lexed_split ts h.0 h.1 h.2 l in
    (each h.0 a parts.0 h.3, each_of_many g P each h.1 all parts.1 h.4)

-- ---- with commas

-- one or more values
pub record Some' {A : Type 0} (P : A → Type 0) (all : List A) : Type 0 where
  pub first : A
  pub rest : List A
  pub is : all ≡ first ∷ rest
  pub first_has : P first
  pub rest_have : AllByRecursion P rest

pub each_of_separated : {A : Type 0} (g : Rule A) (P : A → Type 0) → ((ts : List TokenKind) (a : A) → AreLexed ts → g.sentence ts a → P a) → (ts : List TokenKind) (all : List A) → AreLexed ts → (separated_rule g).sentence ts all → Some' P all
each_of_separated {A = A} g P each ts all l h =
    let parts = lexed_split ts h.0 h.1 h.3 l in
    let after = h.5 in
    let more_parts = lexed_split h.1 after.0 after.1 after.3 parts.1 in
    let comma : (us : List TokenKind) (a : A) → AreLexed us → (mark_rule mark.Comma >>= λ _. g).sentence us a → P a = λ us a lexed c. each c.1 a (lexed_split us c.0 c.1 c.3 lexed).1 c.5 in
    record {
      first = h.2;
      rest = after.2;
      is = after.5.1;
      first_has = each h.0 h.2 parts.0 h.4;
      rest_have = each_of_many (mark_rule mark.Comma >>= λ _. g) P comma after.0 after.2 more_parts.0 after.4;
    }

many_written : {A : Type 0} (g : Rule A) (f : A → List TokenKind) (all : List A) → AllByRecursion (λ a. g.sentence (f a) a) all → AreMany (mark_rule mark.Comma >>= λ _. g) (more (map f all)) all
many_written g f [] h = refl
many_written g f (a ∷ all) h = (kind.Mark mark.Comma ∷ f a, more (map f all), refl, (kind.Mark mark.Comma ∷ [], f a, tt, refl, refl, h.0), many_written g f all h.1)

-- values that are written as sentences are written with commas as a sentence
pub separated_written : {A : Type 0} (g : Rule A) (f : A → List TokenKind) (a : A) (all : List A) → g.sentence (f a) a → AllByRecursion (λ x. g.sentence (f x) x) all → (separated_rule g).sentence (separated (map f (a ∷ all))) (a ∷ all)
separated_written g f a all first rest = (f a, more (map f all), a, refl, first, (more (map f all), [], all, sym (append-nil (more (map f all))), many_written g f all rest, (refl, refl)))

more_printable : {A : Type 0} (f : A → List TokenKind) (all : List A) → AllByRecursion (λ a. ArePrintable (f a)) all → ArePrintable (more (map f all))
more_printable f [] h = tt
more_printable f (a ∷ all) h = printable_append (kind.Mark mark.Comma ∷ f a) (more (map f all)) (tt, h.0) (more_printable f all h.1)

pub all_mapped : {A B : Type 0} (P : B → Type 0) (f : A → B) (all : List A) → AllByRecursion (λ a. P (f a)) all → AllByRecursion P (map f all)
all_mapped P f [] h = tt
all_mapped P f (a ∷ all) h = (h.0, all_mapped P f all h.1)

pub all_of : {A : Type 0} (P Q : A → Type 0) → ((a : A) → P a → Q a) → (all : List A) → AllByRecursion P all → AllByRecursion Q all
all_of P Q each [] h = tt
all_of P Q each (a ∷ all) h = (each a h.0, all_of P Q each all h.1)

pub separated_good : {A : Type 0} (O : TokenKind → Bool) (G : List TokenKind → Bool) → O (kind.Mark mark.Comma) ≡ true → ((ts : List TokenKind) → G (kind.Mark mark.Comma ∷ ts) ≡ true)
    → (f : A → List TokenKind) (a : A) (all : List A) → IsGood O G (f a) → AllByRecursion (λ x. IsGood O G (f x)) all → IsGood O G (separated (map f (a ∷ all)))
separated_good {A = A} O G o g f a all first rest =
    let printable = all_of (λ x. IsGood O G (f x)) (λ x. ArePrintable (f x)) (λ x good. good.printable) all rest in
    let parts = all_mapped (Part O G) f all (all_of (λ x. IsGood O G (f x)) (λ x. Part O G (f x)) (λ x good. good.part) all rest) in
    record {
      printable = printable_append (f a) (more (map f all)) first.printable (more_printable f all printable);
      part = separated_part O G o g (f a) (map f all) first.part parts;
    }
