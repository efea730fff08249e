-- A map whose keys are texts, seen as files.
use Rattle.std.proofs.Common.{◌≡◌, ℕ, List, [], ◌∷◌, map, cond, Some, refl, sym, ap, ◌∙◌}
use Rattle.std.specs.Prelude.{String, string_bytes, string_cmp}
use Rattle.std.specs.Ordering.{nat_cmp, is_eq, eq_by_cmp}
use Rattle.std.specs.Cmp.{eq_by_cmp_equiv}
use Rattle.std.specs.Cmp.Lexicographic.{slice_cmp, nat_list_cmp_total}
use Rattle.std.specs.Map.{lookup}
use Rattle.std.specs.FinMap.{find, get, insert, get-insert, get-from_entries, same_map, slice_cmp-IsAntisymmetric, nat_cmp-IsAntisymmetric}
use Rattle.std.specs.BTreeMap.{BTreeMap, is_at, UpdatesBy}
use Rattle.std.specs.Str.{bytes_eq}
use Rattle.std.proofs.lemmas.Map.Text.{btree_map_updates_text, is_eq-slice_cmp}
use Rattle.eq_io.specs.Fakes.{files_of}

find-texts : {A : Type 0} (q : List ℕ) (es : List (String A × List ℕ))
    → find (slice_cmp nat_cmp) q (map (λ e. (string_bytes e.0, e.1)) es) ≡ lookup (is_at (λ k. slice_cmp nat_cmp q (string_bytes k))) es
find-texts q [] = refl
find-texts q (e ∷ es) = ap (cond (is_eq (slice_cmp nat_cmp q (string_bytes e.0))) (Some e.1)) (find-texts q es)

-- to look a name up in the files is to look it up in the map
pub get-files_of : {A : Type 0} (q : List ℕ) (es : List (String A × List ℕ))
    → get (files_of es) q ≡ lookup (is_at (λ k. slice_cmp nat_cmp q (string_bytes k))) es
get-files_of q es = get-from_entries nat_list_cmp_total _ q ∙ find-texts q es

tie_turned : (x y : List ℕ) → bytes_eq x y ≡ eq_by_cmp (slice_cmp nat_cmp) y x
tie_turned x y = sym (is_eq-slice_cmp x y) ∙ (eq_by_cmp_equiv nat_list_cmp_total).symm x y

-- to update the map at a name is to insert into the files
pub files_of-update : {A : Type 0} (name bytes : List ℕ) (m n : BTreeMap (String A) (List ℕ))
    → UpdatesBy string_cmp (λ k. slice_cmp nat_cmp name (string_bytes k)) m n (Some bytes)
    → files_of n.entries ≡ insert (files_of m.entries) name bytes
files_of-update name bytes m n u =
    same_map nat_list_cmp_total (slice_cmp-IsAntisymmetric nat_cmp-IsAntisymmetric) _ _ (λ q.
    get-files_of q n.entries
    ∙ btree_map_updates_text name m n (Some bytes) u q
    ∙ ap (λ b. cond b (Some bytes) (lookup (is_at (λ k. slice_cmp nat_cmp q (string_bytes k))) m.entries)) (tie_turned name q)
    ∙ ap (cond (eq_by_cmp (slice_cmp nat_cmp) q name) (Some bytes)) (sym (get-files_of q m.entries))
    ∙ sym (get-insert nat_list_cmp_total (files_of m.entries) name bytes q))
