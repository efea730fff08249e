-- Rules of a grammar. A rule says which lists of tokens are its sentences, each with its value, and which are its
-- fronts: the lists that some sentence of the rule goes on from.
use Rattle.std.specs.Prelude.{◌≡◌, ℕ, ◌≤◌, List, [], ◌∷◌, ◌++◌, Option, Some, None, ◌⊎◌}
use Rattle.eq_vlex.specs.declared.key.Key.{Key}
use Rattle.eq_vlex.specs.declared.mark.Mark.{Mark}
use Rattle.eq_vlex.specs.declared.mark.Mark.TheVariants.{Comma}
use Rattle.eq_vlex.specs.declared.token.Constant.{Constant}
use Rattle.eq_vlex.specs.declared.token.TokenKind.{TokenKind}
use Rattle.eq_vlex.specs.declared.token.TokenKind.TheVariants as token

pub record Rule (A : Type 0) : Type 1 where
  pub sentence : List TokenKind → A → Type 0
  pub front : List TokenKind → Type 0

-- ---- one token: the empty list is its front, and so is the token

-- a token that `make` makes of the value
abbrev pub one : {A : Type 0} → (A → TokenKind) → Rule A
one make = record {
  sentence = λ ts a. ts ≡ make a ∷ [];
  front = λ ts. (ts ≡ []) ⊎ ((a : _) × (ts ≡ make a ∷ []));
}

abbrev pub name : Rule (List ℕ)
name = one token.Word

abbrev pub decimal : Rule ℕ
decimal = one token.Decimal

abbrev pub sized : Rule Constant
sized = one token.Sized

abbrev pub just : TokenKind → Rule (Unit {0})
just t = one (λ _. t)

abbrev pub key : Key → Rule (Unit {0})
key k = just (token.Key k)

abbrev pub mark : Mark → Rule (Unit {0})
mark m = just (token.Mark m)

-- ---- rules of rules

-- no token
abbrev pub give : {A : Type 0} → A → Rule A
give a = record { sentence = λ ts b. (ts ≡ []) × (b ≡ a); front = λ ts. ts ≡ [] }

-- no sentence, and no front
abbrev pub nothing : {A : Type 0} → Rule A
nothing = record { sentence = λ ts a. ⊥; front = λ ts. ⊥ }

-- A sequence: a sentence of the first rule, and then one of the rule that follows its value. A front is a front of the
-- first, or a sentence of the first and then a front of what follows.
infixl 10 ◌>>=◌
abbrev pub ◌>>=◌ : {A B : Type 0} → Rule A → (A → Rule B) → Rule B
g >>= f = record {
  sentence = λ ts b. (us : List TokenKind) × (vs : List TokenKind) × (a : _) × (ts ≡ us ++ vs) × g.sentence us a × (f a).sentence vs b;
  front = λ ts. g.front ts ⊎ ((us : List TokenKind) × (vs : List TokenKind) × (a : _) × (ts ≡ us ++ vs) × g.sentence us a × (f a).front vs);
}

-- a choice
infixr 5 ◌or◌
abbrev pub ◌or◌ : {A : Type 0} → Rule A → Rule A → Rule A
g or h = record { sentence = λ ts a. g.sentence ts a ⊎ h.sentence ts a; front = λ ts. g.front ts ⊎ h.front ts }

-- `[ g ]`
abbrev pub IsMaybe : {A : Type 0} → Rule A → List TokenKind → Option A → Type 0
IsMaybe g ts None = ts ≡ []
IsMaybe g ts (Some a) = g.sentence ts a

abbrev pub maybe : {A : Type 0} → Rule A → Rule (Option A)
maybe g = record { sentence = IsMaybe g; front = λ ts. (ts ≡ []) ⊎ g.front ts }

-- `{ g }`: sentences one after the other
abbrev pub AreMany : {A : Type 0} → Rule A → List TokenKind → List A → Type 0
AreMany g ts [] = ts ≡ []
AreMany g ts (a ∷ rest) = (us : List TokenKind) × (vs : List TokenKind) × (ts ≡ us ++ vs) × g.sentence us a × AreMany g vs rest

abbrev pub many : {A : Type 0} → Rule A → Rule (List A)
many g = record {
  sentence = AreMany g;
  front = λ ts. (us : List TokenKind) × (vs : List TokenKind) × (past : List _) × (ts ≡ us ++ vs) × AreMany g us past × g.front vs;
}

-- `g { "," g }`
abbrev pub separated : {A : Type 0} → Rule A → Rule (List A)
separated g = do
  a ← g
  rest ← many (mark Comma >>= λ _. g)
  give (a ∷ rest)

-- only what has at most so much
abbrev pub limited : {A : Type 0} → (List TokenKind → ℕ) → ℕ → Rule A → Rule A
limited measure most g = record {
  sentence = λ ts a. g.sentence ts a × (measure ts ≤ most);
  front = λ ts. g.front ts × (measure ts ≤ most);
}
