-- What the line of a node says, and what is wrong with it.
use Rattle.std.proofs.Common.{◌≡◌, ◌≢◌, ℕ, ◌<◌, ◌≤◌, zero, suc, Bool, true, false, List, [], ◌∷◌, Some, length, slice_get, get_or, refl, sym, ap, ◌∙◌, subst, arith}
use Rattle.std.specs.Prelude.{codes}
use Rattle.std.specs.Fmt.{decimal}
use Rattle.eq_names.specs.Name.{IsName}
use Rattle.eq_bits.specs.declared.node.Node.{Node}
use Rattle.eq_bits.specs.declared.node.Node.TheVariants.{Const, Input, Not, And, Xor, Mux, Buf, Reg}
use Rattle.eq_bits.specs.Node.{IsNode}
use Rattle.eq_wit.specs.declared.state.Draft.{Draft}
use Rattle.eq_wit.specs.declared.state.Stop.{Stop}
use Rattle.eq_wit.specs.declared.state.Stop.TheVariants as stop
use Rattle.eq_wit.specs.declared.types.WitKind.TheVariants as kind
use Rattle.eq_wit.specs.Line.{HasForm}
use Rattle.eq_wit.specs.Texts.{bit_word, digit_of, node_line}
use Rattle.eq_wit.specs.inner.Items.{IsItem, IsNoItem, IsReady, IsWrongFrom, IsWrongOperand}
use Rattle.eq_wit.specs.inner.Judging.{StopsBy, words_of}
use Rattle.eq_wit.specs.inner.Reading.{MayStand}
use Rattle.eq_wit.proofs.Decoding.{FitsNode}
use Rattle.eq_wit.proofs.ItemLemmas.{HasNamesFrom, HasNumerals, decimal_name, no_form, no_number, own_form}
use Rattle.eq_wit.proofs.NodeKeys.{node_and, node_buf, node_const, node_mux, node_not, node_reg, node_xor}
use Rattle.eq_wit.proofs.QuestionLemmas.{literal_name}
use Rattle.eq_wit.proofs.Sizes.{node_fits}

abbrev Keys : Type 0
Keys = List (List ℕ)

numerals_by : (node : Node) → FitsNode node → HasNumerals (node_line node)
numerals_by (Const true) h = tt
numerals_by (Const false) h = tt
numerals_by (Input i) h = (decimal_name i h, tt)
numerals_by (Not a) h = (decimal_name a h, tt)
numerals_by (And a b) h = (decimal_name a h.0, (decimal_name b h.1, tt))
numerals_by (Xor a b) h = (decimal_name a h.0, (decimal_name b h.1, tt))
numerals_by (Mux s a b) h = (decimal_name s h.0, (decimal_name a h.1, (decimal_name b h.2, tt)))
numerals_by (Buf a) h = (decimal_name a h, tt)
numerals_by (Reg next true) h = (decimal_name next h, tt)
numerals_by (Reg next false) h = (decimal_name next h, tt)

pub numerals : (d : Draft) (total : ℕ) → IsReady d total → (node : Node) → MayStand d total node → HasNumerals (node_line node)
numerals d total r node h =
    numerals_by node (node_fits total (length d.nodes) (length d.inputs) node r.few r.within r.few_inputs h.operands h.input)

names : (node : Node) → HasNamesFrom 1 (node_line node)
names (Const true) = (literal_name 49 [] refl, tt)
names (Const false) = (literal_name 48 [] refl, tt)
names (Input i) = tt
names (Not a) = tt
names (And a b) = tt
names (Xor a b) = tt
names (Mux s a b) = tt
names (Buf a) = tt
names (Reg next true) = (literal_name 49 [] refl, tt)
names (Reg next false) = (literal_name 48 [] refl, tt)

word_of : {xs ys : Keys} (k : ℕ) → xs ≡ ys → get_or xs k [] ≡ get_or ys k []
word_of k e = ap (λ (zs : Keys). get_or zs k []) e

-- an operand is wrong
wrong_gate : (d : Draft) (total n : ℕ) (ws : Keys) (s : Stop) → n ≡ length d.nodes → IsReady d total →
    ((node : Node) → MayStand d total node → words_of (node_line node) ≡ ws → ⊥) →
    ((node : Node) → MayStand d total node → HasForm (node_line node) ws → 0 < length d.nodes) →
    (((k : ℕ) (word : List ℕ) → 1 ≤ k → slice_get ws k ≡ Some word → IsName word) → 0 < length d.nodes →
    (x : Node) × MayStand d total x × HasForm (node_line x) ws) → IsWrongOperand n ws s →
    StopsBy (IsNoItem node_line (MayStand d total) ws) s
wrong_gate d total zero ws stop.Memory e r none some sample h = tt
wrong_gate d total zero ws (stop.Fault kind.Head) e r none some sample h = absurd h
wrong_gate d total zero ws (stop.Fault kind.End) e r none some sample h = absurd h
wrong_gate d total zero ws (stop.Fault kind.Number) e r none some sample h = absurd h
wrong_gate d total zero ws (stop.Fault kind.Word) e r none some sample h =
    no_form node_line (MayStand d total) ws (numerals d total r) (λ node fits form.
    let less = some node fits form in absurd (omega (arith, less, e)))
wrong_gate d total (suc n) ws s e r none some sample h =
    no_number node_line (MayStand d total) ws 1 s (numerals d total r) (λ node fits. names node) none
    (λ all. sample all (omega (arith, e))) h

pub right_not : (d : Draft) (total a : ℕ) (ws : Keys) (u : List ℕ) → ws ≡ codes "not" ∷ u ∷ [] →
    u ≡ decimal a → a < length d.nodes →
    IsItem node_line (MayStand d total) ws (Not a)
right_not d total a ws u is e0 h0 = record {
  fits = record { operands = h0; input = tt; only = λ m i e g. cc (e) };
  words = sym (is ∙ ap (λ (x : List ℕ). codes "not" ∷ x ∷ []) e0);
}

pub wrong_not : (d : Draft) (total n : ℕ) (ws : Keys) (u : List ℕ) (s : Stop) → n ≡ length d.nodes → IsReady d total →
    ws ≡ codes "not" ∷ u ∷ [] → ((a : ℕ) → a < length d.nodes → u ≡ decimal a → ⊥) → IsWrongOperand n ws s →
    StopsBy (IsNoItem node_line (MayStand d total) ws) s
wrong_not d total n ws u s e r is none h = wrong_gate d total n ws s e r
    (λ node fits same.
    let which = node_not node (u ∷ []) (subst (HasForm (node_line node)) (same ∙ is) (own_form (node_line node) (numerals d total r node fits))) in
    let at = subst (IsNode total (length d.nodes)) which.1 fits.operands in
    let words : words_of (node_line (Not which.0)) ≡ codes "not" ∷ u ∷ [] =
    ap (λ (x : Node). words_of (node_line x)) (sym which.1) ∙ same ∙ is in
    none which.0 at (sym (word_of 1 words)))
    (λ node fits form.
    let which = node_not node (u ∷ []) (subst (HasForm (node_line node)) is form) in
    let at = subst (IsNode total (length d.nodes)) which.1 fits.operands in omega (arith, at))
    (λ all some. (
      Not 0,
      record { operands = some; input = tt; only = λ m i e g. cc (e) },
      subst (HasForm (node_line (Not 0))) (sym is) (refl, (all 1 u (omega arith) (ap (λ (xs : Keys). slice_get xs 1) is), tt)),
    )) h

pub right_buf : (d : Draft) (total a : ℕ) (ws : Keys) (u : List ℕ) → ws ≡ codes "buf" ∷ u ∷ [] →
    u ≡ decimal a → a < length d.nodes →
    IsItem node_line (MayStand d total) ws (Buf a)
right_buf d total a ws u is e0 h0 = record {
  fits = record { operands = h0; input = tt; only = λ m i e g. cc (e) };
  words = sym (is ∙ ap (λ (x : List ℕ). codes "buf" ∷ x ∷ []) e0);
}

pub wrong_buf : (d : Draft) (total n : ℕ) (ws : Keys) (u : List ℕ) (s : Stop) → n ≡ length d.nodes → IsReady d total →
    ws ≡ codes "buf" ∷ u ∷ [] → ((a : ℕ) → a < length d.nodes → u ≡ decimal a → ⊥) → IsWrongOperand n ws s →
    StopsBy (IsNoItem node_line (MayStand d total) ws) s
wrong_buf d total n ws u s e r is none h = wrong_gate d total n ws s e r
    (λ node fits same.
    let which = node_buf node (u ∷ []) (subst (HasForm (node_line node)) (same ∙ is) (own_form (node_line node) (numerals d total r node fits))) in
    let at = subst (IsNode total (length d.nodes)) which.1 fits.operands in
    let words : words_of (node_line (Buf which.0)) ≡ codes "buf" ∷ u ∷ [] =
    ap (λ (x : Node). words_of (node_line x)) (sym which.1) ∙ same ∙ is in
    none which.0 at (sym (word_of 1 words)))
    (λ node fits form.
    let which = node_buf node (u ∷ []) (subst (HasForm (node_line node)) is form) in
    let at = subst (IsNode total (length d.nodes)) which.1 fits.operands in omega (arith, at))
    (λ all some. (
      Buf 0,
      record { operands = some; input = tt; only = λ m i e g. cc (e) },
      subst (HasForm (node_line (Buf 0))) (sym is) (refl, (all 1 u (omega arith) (ap (λ (xs : Keys). slice_get xs 1) is), tt)),
    )) h

pub right_and : (d : Draft) (total a b : ℕ) (ws : Keys) (u v : List ℕ) → ws ≡ codes "and" ∷ u ∷ v ∷ [] →
    u ≡ decimal a → v ≡ decimal b → a < length d.nodes → b < length d.nodes →
    IsItem node_line (MayStand d total) ws (And a b)
right_and d total a b ws u v is e0 e1 h0 h1 = record {
  fits = record { operands = (h0, h1); input = tt; only = λ m i e g. cc (e) };
  words = sym (is ∙ ap (λ (x : List ℕ). codes "and" ∷ x ∷ v ∷ []) e0 ∙ ap (λ (x : List ℕ). codes "and" ∷ decimal a ∷ x ∷ []) e1);
}

pub wrong_and : (d : Draft) (total n : ℕ) (ws : Keys) (u v : List ℕ) (s : Stop) → n ≡ length d.nodes → IsReady d total →
    ws ≡ codes "and" ∷ u ∷ v ∷ [] → ((a b : ℕ) → a < length d.nodes → b < length d.nodes → u ≡ decimal a → v ≡ decimal b → ⊥) → IsWrongOperand n ws s →
    StopsBy (IsNoItem node_line (MayStand d total) ws) s
wrong_and d total n ws u v s e r is none h = wrong_gate d total n ws s e r
    (λ node fits same.
    let which = node_and node (u ∷ v ∷ []) (subst (HasForm (node_line node)) (same ∙ is) (own_form (node_line node) (numerals d total r node fits))) in
    let at = subst (IsNode total (length d.nodes)) which.2 fits.operands in
    let words : words_of (node_line (And which.0 which.1)) ≡ codes "and" ∷ u ∷ v ∷ [] =
    ap (λ (x : Node). words_of (node_line x)) (sym which.2) ∙ same ∙ is in
    none which.0 which.1 at.0 at.1 (sym (word_of 1 words)) (sym (word_of 2 words)))
    (λ node fits form.
    let which = node_and node (u ∷ v ∷ []) (subst (HasForm (node_line node)) is form) in
    let at = subst (IsNode total (length d.nodes)) which.2 fits.operands in omega (arith, at.0))
    (λ all some. (
      And 0 0,
      record { operands = (some, some); input = tt; only = λ m i e g. cc (e) },
      subst (HasForm (node_line (And 0 0))) (sym is) (refl, (all 1 u (omega arith) (ap (λ (xs : Keys). slice_get xs 1) is), (all 2 v (omega arith) (ap (λ (xs : Keys). slice_get xs 2) is), tt))),
    )) h

pub right_xor : (d : Draft) (total a b : ℕ) (ws : Keys) (u v : List ℕ) → ws ≡ codes "xor" ∷ u ∷ v ∷ [] →
    u ≡ decimal a → v ≡ decimal b → a < length d.nodes → b < length d.nodes →
    IsItem node_line (MayStand d total) ws (Xor a b)
right_xor d total a b ws u v is e0 e1 h0 h1 = record {
  fits = record { operands = (h0, h1); input = tt; only = λ m i e g. cc (e) };
  words = sym (is ∙ ap (λ (x : List ℕ). codes "xor" ∷ x ∷ v ∷ []) e0 ∙ ap (λ (x : List ℕ). codes "xor" ∷ decimal a ∷ x ∷ []) e1);
}

pub wrong_xor : (d : Draft) (total n : ℕ) (ws : Keys) (u v : List ℕ) (s : Stop) → n ≡ length d.nodes → IsReady d total →
    ws ≡ codes "xor" ∷ u ∷ v ∷ [] → ((a b : ℕ) → a < length d.nodes → b < length d.nodes → u ≡ decimal a → v ≡ decimal b → ⊥) → IsWrongOperand n ws s →
    StopsBy (IsNoItem node_line (MayStand d total) ws) s
wrong_xor d total n ws u v s e r is none h = wrong_gate d total n ws s e r
    (λ node fits same.
    let which = node_xor node (u ∷ v ∷ []) (subst (HasForm (node_line node)) (same ∙ is) (own_form (node_line node) (numerals d total r node fits))) in
    let at = subst (IsNode total (length d.nodes)) which.2 fits.operands in
    let words : words_of (node_line (Xor which.0 which.1)) ≡ codes "xor" ∷ u ∷ v ∷ [] =
    ap (λ (x : Node). words_of (node_line x)) (sym which.2) ∙ same ∙ is in
    none which.0 which.1 at.0 at.1 (sym (word_of 1 words)) (sym (word_of 2 words)))
    (λ node fits form.
    let which = node_xor node (u ∷ v ∷ []) (subst (HasForm (node_line node)) is form) in
    let at = subst (IsNode total (length d.nodes)) which.2 fits.operands in omega (arith, at.0))
    (λ all some. (
      Xor 0 0,
      record { operands = (some, some); input = tt; only = λ m i e g. cc (e) },
      subst (HasForm (node_line (Xor 0 0))) (sym is) (refl, (all 1 u (omega arith) (ap (λ (xs : Keys). slice_get xs 1) is), (all 2 v (omega arith) (ap (λ (xs : Keys). slice_get xs 2) is), tt))),
    )) h

pub right_mux : (d : Draft) (total a b z : ℕ) (ws : Keys) (u v w : List ℕ) → ws ≡ codes "mux" ∷ u ∷ v ∷ w ∷ [] →
    u ≡ decimal a → v ≡ decimal b → w ≡ decimal z → a < length d.nodes → b < length d.nodes → z < length d.nodes →
    IsItem node_line (MayStand d total) ws (Mux a b z)
right_mux d total a b z ws u v w is e0 e1 e2 h0 h1 h2 = record {
  fits = record { operands = (h0, h1, h2); input = tt; only = λ m i e g. cc (e) };
  words = sym (is ∙ ap (λ (x : List ℕ). codes "mux" ∷ x ∷ v ∷ w ∷ []) e0 ∙ ap (λ (x : List ℕ). codes "mux" ∷ decimal a ∷ x ∷ w ∷ []) e1 ∙ ap (λ (x : List ℕ). codes "mux" ∷ decimal a ∷ decimal b ∷ x ∷ []) e2);
}

pub wrong_mux : (d : Draft) (total n : ℕ) (ws : Keys) (u v w : List ℕ) (s : Stop) → n ≡ length d.nodes → IsReady d total →
    ws ≡ codes "mux" ∷ u ∷ v ∷ w ∷ [] → ((a b z : ℕ) → a < length d.nodes → b < length d.nodes → z < length d.nodes → u ≡ decimal a → v ≡ decimal b → w ≡ decimal z → ⊥) → IsWrongOperand n ws s →
    StopsBy (IsNoItem node_line (MayStand d total) ws) s
wrong_mux d total n ws u v w s e r is none h = wrong_gate d total n ws s e r
    (λ node fits same.
    let which = node_mux node (u ∷ v ∷ w ∷ []) (subst (HasForm (node_line node)) (same ∙ is) (own_form (node_line node) (numerals d total r node fits))) in
    let at = subst (IsNode total (length d.nodes)) which.3 fits.operands in
    let words : words_of (node_line (Mux which.0 which.1 which.2)) ≡ codes "mux" ∷ u ∷ v ∷ w ∷ [] =
    ap (λ (x : Node). words_of (node_line x)) (sym which.3) ∙ same ∙ is in
    none which.0 which.1 which.2 at.0 at.1 at.2 (sym (word_of 1 words)) (sym (word_of 2 words)) (sym (word_of 3 words)))
    (λ node fits form.
    let which = node_mux node (u ∷ v ∷ w ∷ []) (subst (HasForm (node_line node)) is form) in
    let at = subst (IsNode total (length d.nodes)) which.3 fits.operands in omega (arith, at.0))
    (λ all some. (
      Mux 0 0 0,
      record { operands = (some, some, some); input = tt; only = λ m i e g. cc (e) },
      subst (HasForm (node_line (Mux 0 0 0))) (sym is) (refl, (all 1 u (omega arith) (ap (λ (xs : Keys). slice_get xs 1) is), (all 2 v (omega arith) (ap (λ (xs : Keys). slice_get xs 2) is), (all 3 w (omega arith) (ap (λ (xs : Keys). slice_get xs 3) is), tt)))),
    )) h

-- ---- registers and constants

digit_field : (bit : Bool) (u : List ℕ) → HasForm (bit_word bit ∷ []) (u ∷ []) → u ≡ digit_of bit ∷ []
digit_field true u h = h.0
digit_field false u h = h.0

digit_form : (bit : Bool) (u : List ℕ) → u ≡ digit_of bit ∷ [] → HasForm (bit_word bit ∷ []) (u ∷ [])
digit_form true u e = (e, tt)
digit_form false u e = (e, tt)

pub right_reg : (d : Draft) (total next : ℕ) (init : Bool) (ws : Keys) (u v : List ℕ) → ws ≡ codes "reg" ∷ u ∷ v ∷ [] →
    u ≡ decimal next → next < total → v ≡ digit_of init ∷ [] → IsItem node_line (MayStand d total) ws (Reg next init)
right_reg d total next init ws u v is e h g = record {
  fits = record { operands = h; input = tt; only = λ m i k l. cc (k) };
  words = sym (is ∙ ap (λ (x : List ℕ). codes "reg" ∷ x ∷ v ∷ []) e ∙ ap (λ (x : List ℕ). codes "reg" ∷ decimal next ∷ x ∷ []) g);
}

pub wrong_reg : (d : Draft) (total : ℕ) (init : Bool) (ws : Keys) (u v : List ℕ) (s : Stop) → IsReady d total →
    ws ≡ codes "reg" ∷ u ∷ v ∷ [] → v ≡ digit_of init ∷ [] → ((n : ℕ) → n < total → u ≢ decimal n) → IsWrongFrom 1 ws s →
    StopsBy (IsNoItem node_line (MayStand d total) ws) s
wrong_reg d total init ws u v s r is g none h =
    no_number node_line (MayStand d total) ws 1 s (numerals d total r) (λ node fits. names node)
    (λ node fits same.
    let which = node_reg node (u ∷ v ∷ []) (subst (HasForm (node_line node)) (same ∙ is) (own_form (node_line node) (numerals d total r node fits))) in
    let at = subst (IsNode total (length d.nodes)) which.2 fits.operands in
    let words : words_of (node_line (Reg which.0 which.1)) ≡ codes "reg" ∷ u ∷ v ∷ [] =
    ap (λ (x : Node). words_of (node_line x)) (sym which.2) ∙ same ∙ is in
    none which.0 at (sym (word_of 1 words)))
    (λ all. (
      Reg 0 init,
      record { operands = omega (arith, r.within); input = tt; only = λ m i k l. cc (k) },
      subst (HasForm (node_line (Reg 0 init))) (sym is)
          (refl, (all 1 u (omega arith) (ap (λ (xs : Keys). slice_get xs 1) is), digit_form init v g)),
    )) h

pub no_reg : (d : Draft) (total : ℕ) (ws : Keys) (u v : List ℕ) → IsReady d total → ws ≡ codes "reg" ∷ u ∷ v ∷ [] →
    ((b : Bool) → v ≢ digit_of b ∷ []) → IsNoItem node_line (MayStand d total) ws kind.Word
no_reg d total ws u v r is none = no_form node_line (MayStand d total) ws (numerals d total r) (λ node fits form.
    let which = node_reg node (u ∷ v ∷ []) (subst (HasForm (node_line node)) is form) in
    let own : HasForm (node_line (Reg which.0 which.1)) (codes "reg" ∷ u ∷ v ∷ []) =
    subst (λ (x : Node). HasForm (node_line x) (codes "reg" ∷ u ∷ v ∷ [])) which.2 (subst (HasForm (node_line node)) is form) in
    none which.1 (digit_field which.1 v own.1.1))

pub right_const : (d : Draft) (total : ℕ) (b : Bool) (ws : Keys) (u : List ℕ) → ws ≡ codes "const" ∷ u ∷ [] →
    u ≡ digit_of b ∷ [] → IsItem node_line (MayStand d total) ws (Const b)
right_const d total b ws u is e = record {
  fits = record { operands = tt; input = tt; only = λ m i k l. cc (k) };
  words = sym (is ∙ ap (λ (x : List ℕ). codes "const" ∷ x ∷ []) e);
}

pub no_const : (d : Draft) (total : ℕ) (ws : Keys) (u : List ℕ) → IsReady d total → ws ≡ codes "const" ∷ u ∷ [] →
    ((b : Bool) → u ≢ digit_of b ∷ []) → IsNoItem node_line (MayStand d total) ws kind.Word
no_const d total ws u r is none = no_form node_line (MayStand d total) ws (numerals d total r) (λ node fits form.
    let which = node_const node (u ∷ []) (subst (HasForm (node_line node)) is form) in
    let own : HasForm (node_line (Const which.0)) (codes "const" ∷ u ∷ []) =
    subst (λ (x : Node). HasForm (node_line x) (codes "const" ∷ u ∷ [])) which.1 (subst (HasForm (node_line node)) is form) in
    none which.0 (digit_field which.0 u own.1))

no_shape : (node : Node) (ws : Keys) → ((u : List ℕ) → ws ≢ codes "const" ∷ u ∷ []) →
    ((u : List ℕ) → ws ≢ codes "input" ∷ u ∷ []) →
    ((u : List ℕ) → ws ≢ codes "not" ∷ u ∷ []) →
    ((u v : List ℕ) → ws ≢ codes "and" ∷ u ∷ v ∷ []) →
    ((u v : List ℕ) → ws ≢ codes "xor" ∷ u ∷ v ∷ []) →
    ((u v w : List ℕ) → ws ≢ codes "mux" ∷ u ∷ v ∷ w ∷ []) →
    ((u : List ℕ) → ws ≢ codes "buf" ∷ u ∷ []) →
    ((u v : List ℕ) → ws ≢ codes "reg" ∷ u ∷ v ∷ []) →
    HasForm (node_line node) ws → ⊥
no_shape (Const true) ([]) n_const n_input n_not n_and n_xor n_mux n_buf n_reg h = h
no_shape (Const true) (x0 ∷ []) n_const n_input n_not n_and n_xor n_mux n_buf n_reg h = h.1
no_shape (Const true) (x0 ∷ x1 ∷ []) n_const n_input n_not n_and n_xor n_mux n_buf n_reg h = n_const x1 (ap (λ (x : List ℕ). x ∷ x1 ∷ []) h.0)
no_shape (Const true) (x0 ∷ x1 ∷ y ∷ ys) n_const n_input n_not n_and n_xor n_mux n_buf n_reg h = h.1.1
no_shape (Const false) ([]) n_const n_input n_not n_and n_xor n_mux n_buf n_reg h = h
no_shape (Const false) (x0 ∷ []) n_const n_input n_not n_and n_xor n_mux n_buf n_reg h = h.1
no_shape (Const false) (x0 ∷ x1 ∷ []) n_const n_input n_not n_and n_xor n_mux n_buf n_reg h = n_const x1 (ap (λ (x : List ℕ). x ∷ x1 ∷ []) h.0)
no_shape (Const false) (x0 ∷ x1 ∷ y ∷ ys) n_const n_input n_not n_and n_xor n_mux n_buf n_reg h = h.1.1
no_shape (Input i) ([]) n_const n_input n_not n_and n_xor n_mux n_buf n_reg h = h
no_shape (Input i) (x0 ∷ []) n_const n_input n_not n_and n_xor n_mux n_buf n_reg h = h.1
no_shape (Input i) (x0 ∷ x1 ∷ []) n_const n_input n_not n_and n_xor n_mux n_buf n_reg h = n_input x1 (ap (λ (x : List ℕ). x ∷ x1 ∷ []) h.0)
no_shape (Input i) (x0 ∷ x1 ∷ y ∷ ys) n_const n_input n_not n_and n_xor n_mux n_buf n_reg h = h.1.1
no_shape (Not a) ([]) n_const n_input n_not n_and n_xor n_mux n_buf n_reg h = h
no_shape (Not a) (x0 ∷ []) n_const n_input n_not n_and n_xor n_mux n_buf n_reg h = h.1
no_shape (Not a) (x0 ∷ x1 ∷ []) n_const n_input n_not n_and n_xor n_mux n_buf n_reg h = n_not x1 (ap (λ (x : List ℕ). x ∷ x1 ∷ []) h.0)
no_shape (Not a) (x0 ∷ x1 ∷ y ∷ ys) n_const n_input n_not n_and n_xor n_mux n_buf n_reg h = h.1.1
no_shape (And a b) ([]) n_const n_input n_not n_and n_xor n_mux n_buf n_reg h = h
no_shape (And a b) (x0 ∷ []) n_const n_input n_not n_and n_xor n_mux n_buf n_reg h = h.1
no_shape (And a b) (x0 ∷ x1 ∷ []) n_const n_input n_not n_and n_xor n_mux n_buf n_reg h = h.1.1
no_shape (And a b) (x0 ∷ x1 ∷ x2 ∷ []) n_const n_input n_not n_and n_xor n_mux n_buf n_reg h = n_and x1 x2 (ap (λ (x : List ℕ). x ∷ x1 ∷ x2 ∷ []) h.0)
no_shape (And a b) (x0 ∷ x1 ∷ x2 ∷ y ∷ ys) n_const n_input n_not n_and n_xor n_mux n_buf n_reg h = h.1.1.1
no_shape (Xor a b) ([]) n_const n_input n_not n_and n_xor n_mux n_buf n_reg h = h
no_shape (Xor a b) (x0 ∷ []) n_const n_input n_not n_and n_xor n_mux n_buf n_reg h = h.1
no_shape (Xor a b) (x0 ∷ x1 ∷ []) n_const n_input n_not n_and n_xor n_mux n_buf n_reg h = h.1.1
no_shape (Xor a b) (x0 ∷ x1 ∷ x2 ∷ []) n_const n_input n_not n_and n_xor n_mux n_buf n_reg h = n_xor x1 x2 (ap (λ (x : List ℕ). x ∷ x1 ∷ x2 ∷ []) h.0)
no_shape (Xor a b) (x0 ∷ x1 ∷ x2 ∷ y ∷ ys) n_const n_input n_not n_and n_xor n_mux n_buf n_reg h = h.1.1.1
no_shape (Mux s a b) ([]) n_const n_input n_not n_and n_xor n_mux n_buf n_reg h = h
no_shape (Mux s a b) (x0 ∷ []) n_const n_input n_not n_and n_xor n_mux n_buf n_reg h = h.1
no_shape (Mux s a b) (x0 ∷ x1 ∷ []) n_const n_input n_not n_and n_xor n_mux n_buf n_reg h = h.1.1
no_shape (Mux s a b) (x0 ∷ x1 ∷ x2 ∷ []) n_const n_input n_not n_and n_xor n_mux n_buf n_reg h = h.1.1.1
no_shape (Mux s a b) (x0 ∷ x1 ∷ x2 ∷ x3 ∷ []) n_const n_input n_not n_and n_xor n_mux n_buf n_reg h = n_mux x1 x2 x3 (ap (λ (x : List ℕ). x ∷ x1 ∷ x2 ∷ x3 ∷ []) h.0)
no_shape (Mux s a b) (x0 ∷ x1 ∷ x2 ∷ x3 ∷ y ∷ ys) n_const n_input n_not n_and n_xor n_mux n_buf n_reg h = h.1.1.1.1
no_shape (Buf a) ([]) n_const n_input n_not n_and n_xor n_mux n_buf n_reg h = h
no_shape (Buf a) (x0 ∷ []) n_const n_input n_not n_and n_xor n_mux n_buf n_reg h = h.1
no_shape (Buf a) (x0 ∷ x1 ∷ []) n_const n_input n_not n_and n_xor n_mux n_buf n_reg h = n_buf x1 (ap (λ (x : List ℕ). x ∷ x1 ∷ []) h.0)
no_shape (Buf a) (x0 ∷ x1 ∷ y ∷ ys) n_const n_input n_not n_and n_xor n_mux n_buf n_reg h = h.1.1
no_shape (Reg next true) ([]) n_const n_input n_not n_and n_xor n_mux n_buf n_reg h = h
no_shape (Reg next true) (x0 ∷ []) n_const n_input n_not n_and n_xor n_mux n_buf n_reg h = h.1
no_shape (Reg next true) (x0 ∷ x1 ∷ []) n_const n_input n_not n_and n_xor n_mux n_buf n_reg h = h.1.1
no_shape (Reg next true) (x0 ∷ x1 ∷ x2 ∷ []) n_const n_input n_not n_and n_xor n_mux n_buf n_reg h = n_reg x1 x2 (ap (λ (x : List ℕ). x ∷ x1 ∷ x2 ∷ []) h.0)
no_shape (Reg next true) (x0 ∷ x1 ∷ x2 ∷ y ∷ ys) n_const n_input n_not n_and n_xor n_mux n_buf n_reg h = h.1.1.1
no_shape (Reg next false) ([]) n_const n_input n_not n_and n_xor n_mux n_buf n_reg h = h
no_shape (Reg next false) (x0 ∷ []) n_const n_input n_not n_and n_xor n_mux n_buf n_reg h = h.1
no_shape (Reg next false) (x0 ∷ x1 ∷ []) n_const n_input n_not n_and n_xor n_mux n_buf n_reg h = h.1.1
no_shape (Reg next false) (x0 ∷ x1 ∷ x2 ∷ []) n_const n_input n_not n_and n_xor n_mux n_buf n_reg h = n_reg x1 x2 (ap (λ (x : List ℕ). x ∷ x1 ∷ x2 ∷ []) h.0)
no_shape (Reg next false) (x0 ∷ x1 ∷ x2 ∷ y ∷ ys) n_const n_input n_not n_and n_xor n_mux n_buf n_reg h = h.1.1.1

pub no_node : (d : Draft) (total : ℕ) (ws : Keys) → IsReady d total → ((u : List ℕ) → ws ≢ codes "const" ∷ u ∷ []) →
    ((u : List ℕ) → ws ≢ codes "input" ∷ u ∷ []) →
    ((u : List ℕ) → ws ≢ codes "not" ∷ u ∷ []) →
    ((u v : List ℕ) → ws ≢ codes "and" ∷ u ∷ v ∷ []) →
    ((u v : List ℕ) → ws ≢ codes "xor" ∷ u ∷ v ∷ []) →
    ((u v w : List ℕ) → ws ≢ codes "mux" ∷ u ∷ v ∷ w ∷ []) →
    ((u : List ℕ) → ws ≢ codes "buf" ∷ u ∷ []) →
    ((u v : List ℕ) → ws ≢ codes "reg" ∷ u ∷ v ∷ []) →
    IsNoItem node_line (MayStand d total) ws kind.Word
no_node d total ws r n_const n_input n_not n_and n_xor n_mux n_buf n_reg = no_form node_line (MayStand d total) ws (numerals d total r)
    (λ node fits form. no_shape node ws n_const n_input n_not n_and n_xor n_mux n_buf n_reg form)
