-- An `if` has run: its condition, each branch on the table before, and the choice between what they left.
use Rattle.std.proofs.Common.{◌≡◌, ℕ, ◌<◌, ◌≤◌, ◌||◌, Bool, true, false, cond, nat_lt, List, [], ◌∷◌, ◌++◌, length, length-append, slice_get, Some, refl, arith, sym, ap, ap₂, subst, ◌∙◌, inl, inr, ◌⊎◌}
use Rattle.std.proofs.lemmas.Bool.{cases_Bool, false≢true, ltb-true, lt-ltb}
use Rattle.std.proofs.lemmas.Option.{slice_get_within}
use Rattle.eq_net.specs.declared.types.NetInfo.{NetInfo}
use Rattle.eq_net.specs.declared.types.WordBit.{WordBit}
use Rattle.eq_net.specs.Tree.{Tree}
use Rattle.eq_net.specs.Meaning.{bit_of, reads_of, width}
use Rattle.eq_net.specs.Net.{HasWordBit, IsWord, number_of}
use Rattle.eq_verilog.specs.Trees.{ExprTree, StmtTree, branch}
use Rattle.eq_verilog.specs.Scopes.{Scope}
use Rattle.eq_verilog.specs.Sizes.{own}
use Rattle.eq_verilog.specs.Registers.{Table, chosen, run, sets}
use Rattle.eq_flatten.specs.Rendering.{KeepsFront}
use Rattle.eq_registers.specs.Standing.{AreNext, AreThere, StandsFor}
use Rattle.eq_registers.specs.Running.{HasRun}
use Rattle.eq_registers.specs.inner.Writing.{entry}
use Rattle.eq_registers.specs.inner.Choosing.{HasCondition, IsChosen, IsGathered, IsWhole, is_new}
use Rattle.eq_registers.proofs.Placed.{all_places, one_entry, some_at}
use Rattle.eq_registers.proofs.Grown.{added_cost, added_word, keeps_more, keeps_twice, row_later, words_more}
use Rattle.eq_registers.proofs.Stood.{next_later, stands_later, there_later}
use Rattle.eq_registers.proofs.Chosen.{Choice, choice_stands}

not_less : (a b : ℕ) → b ≤ a → nat_lt a b ≡ false
not_less a b le = elim (cases_Bool (nat_lt a b)) [
  | inl t ↦ absurd (let lt : a < b = ltb-true a b t in omega (arith, lt, le))
  | inr f ↦ f
]

pub first_false : (a b : Bool) → (a || b) ≡ false → a ≡ false
first_false true b e = e
first_false false b e = refl

pub second_false : (a b : Bool) → (a || b) ≡ false → b ≡ false
second_false true b e = absurd (false≢true (sym e))
second_false false b e = e

module _ (nets : List NetInfo) (s : Scope) (c : ExprTree) (a d : StmtTree) (keys : List ℕ) (number : ℕ)
    (old start mid words : List Tree) (before firsts seconds after : List WordBit) (bits ones others : List WordBit)
    (condition : HasCondition nets s c number old start)
    (one : HasRun nets s a keys start mid before firsts) (other : HasRun nets s d keys mid words before seconds)
    (whole : IsWhole number bits (own s c))
    (gathered : IsGathered number (length words) firsts seconds after ones others (length firsts))
    (size : length before ≡ length keys) (there : AreThere old before) where
  abbrev Last : Tree
  Last = Choice nets s c number words bits ones others

  abbrev New : List Tree
  New = words ++ Last ∷ []

  start_words : KeepsFront start words
  start_words = keeps_twice start mid words one.extends other.extends

  old_words : KeepsFront old words
  old_words = keeps_twice old start words condition.extends start_words

  old_new : KeepsFront old New
  old_new = keeps_twice old words New old_words (keeps_more words Last)

  number_there : number < length words
  number_there = (let e = condition.last in let m = start_words.more in omega (arith, e, m))

  number_before : number < length start
  number_before = (let e = condition.last in omega (arith, e))

  -- ---- the word that chooses

  bit_there : (j : ℕ) → j < own s c → HasWordBit words (length words) (entry number j)
  bit_there j lt = (
    number_there,
    (let e = ap (λ (t : Tree). width t) (start_words.kept number number_before) in
        let f = condition.size in omega (arith, e, f, lt)),
  )

  last_word : IsWord nets words (length words) Last
  last_word = (
    all_places (HasWordBit words (length words)) bits (λ j b e.
        subst (λ (i : WordBit). HasWordBit words (length words) i) (sym (whole.at j b e))
        (bit_there j (let i = slice_get_within bits j b e in let n = whole.size in omega (arith, i, n)))),
    all_places (HasWordBit words (length words)) ones (λ k x e.
        let from = gathered.from_firsts k x e in
        there_later nets mid words x other.extends (one.there from.0 x from.1)),
    all_places (HasWordBit words (length words)) others (λ k y e.
        let from = gathered.from_others k y e in other.there from.0 y from.1),
    sym gathered.even,
  )

  -- ---- which entries are new

  first_new : (p b : ℕ) (x : WordBit) (t : Bool) → slice_get keys p ≡ Some b → slice_get firsts p ≡ Some x →
      sets s a b ≡ t → nat_lt number x.word ≡ t
  first_new p b x true key e is =
      (let le = one.fresh p b x key is e in let n = condition.last in
      lt-ltb number x.word (omega (arith, le, n)))
  first_new p b x false key e is =
      (let lt = (there p x (sym (one.kept p b key is) ∙ e)).0 in let n = condition.above in
      not_less number x.word (omega (arith, lt, n)))

  second_new : (p b : ℕ) (y : WordBit) (t : Bool) → slice_get keys p ≡ Some b → slice_get seconds p ≡ Some y →
      sets s d b ≡ t → nat_lt number y.word ≡ t
  second_new p b y true key e is =
      (let le = other.fresh p b y key is e in let n = condition.last in let m = one.extends.more in
      lt-ltb number y.word (omega (arith, le, n, m)))
  second_new p b y false key e is =
      (let lt = (there p y (sym (other.kept p b key is) ∙ e)).0 in let n = condition.above in
      not_less number y.word (omega (arith, lt, n)))

  new_where_set : (p b : ℕ) (x y : WordBit) → slice_get keys p ≡ Some b → slice_get firsts p ≡ Some x →
      slice_get seconds p ≡ Some y → is_new number x y ≡ (sets s a b || sets s d b)
  new_where_set p b x y key e f =
      ap₂ (λ t u. t || u) (first_new p b x (sets s a b) key e refl) (second_new p b y (sets s d b) key f refl)

  -- ---- what stands at a place

  record IsChoice (p b : ℕ) (w : WordBit) : Type 0 where
    set : (sets s a b || sets s d b) ≡ true
    k : ℕ
    x : WordBit
    y : WordBit
    first : slice_get firsts p ≡ Some x
    second : slice_get seconds p ≡ Some y
    from_one : slice_get ones k ≡ Some x
    from_other : slice_get others k ≡ Some y
    is : entry (length words) k ≡ w

  record IsAsBefore (p b : ℕ) (w : WordBit) : Type 0 where
    not_set : (sets s a b || sets s d b) ≡ false
    had : slice_get before p ≡ Some w

  as_kept : (p b : ℕ) (y w : WordBit) → slice_get keys p ≡ Some b → sets s d b ≡ false → slice_get seconds p ≡ Some y →
      y ≡ w → slice_get before p ≡ Some w
  as_kept p b y w key none second same =
      sym (other.kept p b key none) ∙ second ∙ ap (λ (i : WordBit). Some i) same

  stands_at : (p b : ℕ) (w : WordBit) → slice_get keys p ≡ Some b → slice_get after p ≡ Some w →
      IsChoice p b w ⊎ IsAsBefore p b w
  stands_at p b w key here =
      let n1 = one.size in
      let n2 = other.size in
      let n3 = gathered.size in
      let inside = slice_get_within after p w here in
      let first = some_at firsts p (omega (arith, inside, n1, n2, n3)) in
      let second = some_at seconds p (omega (arith, inside, n3)) in
      let x = first.0 in
      let y = second.0 in
      let lt = slice_get_within firsts p x first.1 in
      let new = new_where_set p b x y key first.1 second.1 in
      elim (cases_Bool (sets s a b || sets s d b)) [
        | inl set ↦
            let found = gathered.chosen p x y lt first.1 second.1 (new ∙ set) in
            inl (record {
              set = set;
              k = found.0;
              x = x;
              y = y;
              first = first.1;
              second = second.1;
              from_one = found.2;
              from_other = found.3;
              is = one_entry after p (entry (length words) found.0) w found.1 here;
            })
        | inr none ↦
            let same = one_entry after p y w (gathered.passed p x y lt first.1 second.1 (new ∙ none)) here in
            inr (record {
              not_set = none;
              had = as_kept p b y w key (second_false (sets s a b) (sets s d b) none) second.1 same;
            })
      ]

  stands_next : (table : Table) → AreNext nets old keys before table → (p b : ℕ) (w : WordBit) →
      slice_get keys p ≡ Some b → IsChoice p b w →
      StandsFor nets New w (chosen s c (run s a table b) (run s d table b))
  stands_next table next p b w key q =
      let x : WordBit = q.x in
      let y : WordBit = q.y in
      subst (λ (i : WordBit). StandsFor nets New i (chosen s c (run s a table b) (run s d table b))) q.is
      (choice_stands nets s c number words bits ones others whole
      (λ v j. row_later false (bit_of v (number_of nets)) start words number j start_words number_before
      ∙ condition.values v j)
      (λ j. row_later [] (reads_of (number_of nets)) start words number j start_words number_before
      ∙ condition.reads j)
      q.k x y (run s a table b) (run s d table b) q.from_one q.from_other
      (stands_later nets mid words x (run s a table b) other.extends
      (one.next table (next_later nets old start keys before table condition.extends next) p b x key q.first))
      (other.next table (next_later nets old mid keys before table
      (keeps_twice old start mid condition.extends one.extends) next) p b y key q.second))

  pub branch_new : HasRun nets s (branch c a d) keys old New before after
  branch_new = record {
    extends = old_new;
    words = words_more nets words Last other.words last_word;
    size = gathered.size ∙ other.size;
    there = λ p w here.
        let inside = slice_get_within after p w here in
        let n2 = other.size in
        let n3 = gathered.size in
        let key = some_at keys p (omega (arith, inside, n2, n3, size)) in
        elim (stands_at p key.0 w key.1 here) [
          | inl q ↦
              subst (λ (i : WordBit). HasWordBit New (length New) i) q.is (
                (let e = length-append words (Last ∷ []) in omega (arith, e)),
                subst (λ (t : Tree). q.k < width t) (sym (added_word words Last)) (slice_get_within ones q.k q.x q.from_one),
              )
          | inr q ↦ there_later nets old New w old_new (there p w q.had)
        ];
    next = λ table next p b w key here.
        elim (stands_at p b w key here) [
          | inl q ↦
              subst (λ (t : Bool). StandsFor nets New w
              (cond t (chosen s c (run s a table b) (run s d table b)) (table b))) (sym q.set)
              (stands_next table next p b w key q)
          | inr q ↦
              subst (λ (t : Bool). StandsFor nets New w
              (cond t (chosen s c (run s a table b) (run s d table b)) (table b))) (sym q.not_set)
              (stands_later nets old New w (table b) old_new (next p b w key q.had))
        ];
    fresh = λ p b w key is here.
        elim (stands_at p b w key here) [
          | inl q ↦ (
              let same = ap (λ (i : WordBit). i.word) q.is in let m = old_words.more in omega (arith, same, m))
          | inr q ↦ absurd (false≢true (sym q.not_set ∙ is))
        ];
    kept = λ p b key is.
        let inside = slice_get_within keys p b key in
        let n2 = other.size in
        let n3 = gathered.size in
        let w = some_at after p (omega (arith, inside, n2, n3, size)) in
        elim (stands_at p b w.0 key w.1) [
          | inl q ↦ absurd (false≢true (sym is ∙ q.set))
          | inr q ↦ w.1 ∙ sym q.had
        ];
    costs = λ n le.
        let e0 = condition.costs in
        let e1 = one.costs n le in
        let e2 = other.costs n le in
        let e3 = added_cost words Last in
        let few = gathered.few in
        let n0 = whole.size in
        let n1 = one.size in
        omega (arith, e0, e1, e2, e3, few, n0, n1, size, le);
  }

pub branch_run : (nets : List NetInfo) (s : Scope) (c : ExprTree) (a d : StmtTree) (keys : List ℕ) (number w : ℕ)
    (old start mid words new : List Tree) (before firsts seconds after : List WordBit)
    → HasCondition nets s c number old start → HasRun nets s a keys start mid before firsts
    → HasRun nets s d keys mid words before seconds → IsChosen number w firsts seconds after words new
    → w ≡ own s c → length before ≡ length keys → AreThere old before
    → HasRun nets s (branch c a d) keys old new before after
branch_run nets s c a d keys number w old start mid words new before firsts seconds after condition one other made is
    size there =
    subst (λ (ws : List Tree). HasRun nets s (branch c a d) keys old ws before after) (sym made.added)
    (branch_new nets s c a d keys number old start mid words before firsts seconds after made.bits made.ones made.others
    condition one other (subst (λ (i : ℕ). IsWhole number made.bits i) is made.whole) made.gathered size there)
