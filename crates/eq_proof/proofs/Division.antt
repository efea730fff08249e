-- Lists of lists that are kept in one array: their rows, and a row more.
use Rattle.std.proofs.Common.{◌≡◌, ℕ, ◌+◌, ◌-◌, ◌<◌, ◌≤◌, suc, zero, List, [], ◌∷◌, ◌++◌, length, Some, slice_get, take, drop, arith, refl, ap, ◌∙◌, sym, length-drop, subst}
use Rattle.std.proofs.lemmas.List.{drop_at, take_all, drop-append-le, take-append-le, length-take-le, take-append-drop}
use Rattle.std.specs.Prelude.{slice_range, slice_index}
use Rattle.eq_proof.specs.Rows.{parts_of, IsDivision, start_at}

pub length-parts : {X : Type 0} (items : List X) (from : ℕ) (ends : List ℕ) → length (parts_of items from ends) ≡ length ends
length-parts items from [] = refl
length-parts items from (end ∷ ends) = ap suc (length-parts items end ends)

-- the first row begins within the list
pub begins_within : (len from : ℕ) (ends : List ℕ) → IsDivision len from ends → from ≤ len
begins_within len from [] d = omega arith
begins_within len from (end ∷ ends) d = omega (arith, begins_within len end ends d.1)

start_next : (from end : ℕ) (ends : List ℕ) (place : ℕ) → start_at from (end ∷ ends) (suc place) ≡ start_at end ends place
start_next from end ends zero = refl
start_next from end ends (suc place) = refl

-- a row lies within the list
pub row_within : (len from : ℕ) (ends : List ℕ) (place : ℕ) → IsDivision len from ends → place < length ends → (start_at from ends place ≤ slice_index ends place) × (slice_index ends place ≤ len)
row_within len from [] place d h = absurd (omega arith)
row_within len from (end ∷ ends) zero d h = (d.0, begins_within len end ends d.1)
row_within len from (end ∷ ends) (suc place) d h = rw start_next (row_within len end ends place d.1 (omega arith))

-- the row at a place
pub row_at : {X : Type 0} (items : List X) (from : ℕ) (ends : List ℕ) (place : ℕ) → place < length ends → slice_get (parts_of items from ends) place ≡ Some (slice_range items (start_at from ends place) (slice_index ends place))
row_at items from [] place h = absurd (omega arith)
row_at items from (end ∷ ends) zero h = refl
row_at items from (end ∷ ends) (suc place) h = rw (start_next from end ends place) (row_at items end ends place (omega arith))

pub IsDivision-push : (len more from : ℕ) (ends : List ℕ) → len ≤ more → IsDivision len from ends → IsDivision more from (ends ++ more ∷ [])
IsDivision-push len more from [] h d = (omega arith, refl)
IsDivision-push len more from (end ∷ ends) h d = (d.0, IsDivision-push len more end ends h d.1)

-- a part of what a longer list begins with
same_part : {X : Type 0} (items more : List X) (from end : ℕ) → from ≤ end → end ≤ length items → slice_range (items ++ more) from end ≡ slice_range items from end
same_part items more from end ordered within =
    let begins : from ≤ length items = omega arith in
    let fits : end - from ≤ length (drop from items) = omega (arith, length-drop from items) in
    ap (take (end - from)) (drop-append-le from items more begins) ∙ take-append-le (end - from) (drop from items) more fits

-- a row more
pub row_more : {X : Type 0} (items more : List X) (from : ℕ) (ends : List ℕ) → IsDivision (length items) from ends → parts_of (items ++ more) from (ends ++ (length items + length more) ∷ []) ≡ parts_of items from ends ++ more ∷ []
row_more items more from [] d =
    let whole : length more ≤ length items + length more - from = omega arith in
    ap (λ row. row ∷ []) (ap (take (length items + length more - from)) (drop_at items more from (sym d)) ∙ take_all _ more whole)
row_more items more from (end ∷ ends) d =
    rw (same_part items more from end d.0 (begins_within (length items) end ends d.1)) (ap (λ rows. slice_range items from end ∷ rows) (row_more items more end ends d.1))

-- the first rows
pub IsDivision-take : (len from : ℕ) (ends : List ℕ) (rows : ℕ) → IsDivision len from ends → rows ≤ length ends → IsDivision (start_at from ends rows) from (take rows ends)
IsDivision-take len from ends zero d h = refl
IsDivision-take len from [] (suc rows) d h = absurd (omega arith)
IsDivision-take len from (end ∷ ends) (suc rows) d h =
    let P : ℕ → Type 0 = λ len. IsDivision len end (take rows ends) in
    (d.0, subst P (sym (start_next from end ends rows)) (IsDivision-take len end ends rows d.1 (omega arith)))

-- of a longer list the same rows
same_rows : {X : Type 0} (items more : List X) (from : ℕ) (ends : List ℕ) → IsDivision (length items) from ends → parts_of (items ++ more) from ends ≡ parts_of items from ends
same_rows items more from [] d = refl
same_rows items more from (end ∷ ends) d =
    rw (same_part items more from end d.0 (begins_within (length items) end ends d.1)) (ap (λ rows. slice_range items from end ∷ rows) (same_rows items more end ends d.1))

parts-take : {X : Type 0} (items : List X) (from : ℕ) (ends : List ℕ) (rows : ℕ) → parts_of items from (take rows ends) ≡ take rows (parts_of items from ends)
parts-take items from ends zero = refl
parts-take items from [] (suc rows) = refl
parts-take items from (end ∷ ends) (suc rows) = ap (λ rest. slice_range items from end ∷ rest) (parts-take items end ends rows)

-- where the first rows end is within the list
start_within : (len from : ℕ) (ends : List ℕ) (rows : ℕ) → IsDivision len from ends → rows ≤ length ends → start_at from ends rows ≤ len
start_within len from ends zero d h = begins_within len from ends d
start_within len from [] (suc rows) d h = absurd (omega arith)
start_within len from (end ∷ ends) (suc rows) d h = rw (start_next from end ends rows) (start_within len end ends rows d.1 (omega arith))

pub rows_taken : {X : Type 0} (items : List X) (from : ℕ) (ends : List ℕ) (rows : ℕ) → IsDivision (length items) from ends → rows ≤ length ends
    → parts_of (take (start_at from ends rows) items) from (take rows ends) ≡ take rows (parts_of items from ends)
rows_taken items from ends rows d h =
    let end = start_at from ends rows in
    let len : length (take end items) ≡ end = length-take-le end items (start_within (length items) from ends rows d h) in
    let kept : IsDivision (length (take end items)) from (take rows ends) = rw len (IsDivision-take (length items) from ends rows d h) in
    sym (same_rows (take end items) (drop end items) from (take rows ends) kept)
    ∙ ap (λ all. parts_of all from (take rows ends)) (take-append-drop end items)
    ∙ parts-take items from ends rows

-- and they are a division of what is kept
pub taken_divides : {X : Type 0} (items : List X) (ends : List ℕ) (rows : ℕ) → IsDivision (length items) 0 ends → rows ≤ length ends → IsDivision (length (take (start_at 0 ends rows) items)) 0 (take rows ends)
taken_divides items ends rows d h =
    rw (length-take-le (start_at 0 ends rows) items (start_within (length items) 0 ends rows d h)) (IsDivision-take (length items) 0 ends rows d h)
