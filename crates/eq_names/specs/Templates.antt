-- Which texts are templates, and what they are filled to.
use Rattle.std.specs.Prelude.{◌≡◌, ℕ, ◌-◌, ◌≤◌, ◌||◌, ◌&&◌, if◌then◌else◌, ◌==◌, nat_le, ◌⊎◌, List, [], ◌∷◌, ◌++◌, length, slice_get, slice_index, slice_range, Option, Some, None, Result, Ok, Err}
use Rattle.eq_names.specs.declared.fault.TplErr.{TplErr}
use Rattle.eq_names.specs.declared.fault.TplErr.TheVariants as error
use Rattle.eq_names.specs.declared.part.Part.{Part}
use Rattle.eq_names.specs.declared.part.Part.TheVariants.{Byte, Wild}
use Rattle.eq_names.specs.declared.span.Span.{Span}
use Rattle.eq_names.specs.Reading.{Rule, ArePiecesOf, HasFirstFault}

-- What a byte behind a `%` stands for: 37 is `%`, 126 is `~`, and 49 to 57 are the digits from 1 to 9, of which the
-- pattern's wilds are to be as many at least. There is no byte 0, which stands for none.
abbrev pub escaped : ℕ → ℕ → Result (Part × ℕ) TplErr
escaped wilds b =
    if b == 37 || b == 126 then Ok (Byte b, 2)
    else (if nat_le 49 b && nat_le b 57 then (if nat_le (b - 48) wilds then Ok (
      Wild (b - 48),
      2,
    ) else Err (error.NoCapture (b - 48)))
    else Err error.BadPercent)

-- what stands at the front of a template for a pattern of so many wilds
abbrev pub part_at : ℕ → Rule Part TplErr
part_at wilds text = if slice_index text 0 == 37 then escaped wilds (slice_index text 1) else Ok (
  Byte
      (slice_index text 0),
  1,
)

-- the text is a template for a pattern of so many wilds
abbrev pub IsTemplate : List ℕ → ℕ → Type 0
IsTemplate text wilds = (parts : List Part) × ArePiecesOf (part_at wilds) text parts

-- the first fault of a text from the left
abbrev pub HasTemplateFault : List ℕ → ℕ → TplErr → Type 0
HasTemplateFault text wilds fault = ((text ≡ []) × (fault ≡ error.Empty)) ⊎ HasFirstFault (part_at wilds) text fault

-- what an error says of the text; want of memory says nothing
abbrev pub ExplainsTemplate : List ℕ → ℕ → TplErr → Type 0
ExplainsTemplate text wilds fault = (fault ≡ error.Memory) ⊎ HasTemplateFault text wilds fault

-- this answer, but for want of memory
abbrev pub IsTemplateOrNoMemory : Result (List ℕ) TplErr → Result (List ℕ) TplErr → Type 0
IsTemplateOrNoMemory result answer = (result ≡ answer) ⊎ (result ≡ Err error.Memory)

-- the span lies within the name
pub record IsSpanOf (name : List ℕ) (span : Span) : Type 0 where
  pub ordered : span.start ≤ span.end
  pub within : span.end ≤ length name

-- the bytes of a name that a span has
abbrev pub captured : List ℕ → Option Span → List ℕ
captured name None = []
captured name (Some span) = slice_range name span.start span.end

-- what a part stands for; the wilds are numbered from 1
abbrev pub part_text : List ℕ → List Span → Part → List ℕ
part_text name spans (Byte b) = b ∷ []
part_text name spans (Wild number) = captured name (slice_get spans (number - 1))

abbrev pub parts_text : List ℕ → List Span → List Part → List ℕ
parts_text name spans [] = []
parts_text name spans (part ∷ parts) = part_text name spans part ++ parts_text name spans parts

-- the template filled with the text of these spans of the name
pub record IsFilled (template name : List ℕ) (spans : List Span) (text : List ℕ) : Type 0 where
  pub parts : List Part
  pub are_parts : ArePiecesOf (part_at (length spans)) template parts
  pub text_is : text ≡ parts_text name spans parts
