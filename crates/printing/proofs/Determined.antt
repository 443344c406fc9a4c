-- Two texts of one number, and two placings of one text, coincide.
use Prim.Native.Nat.{ℕ, ◌+◌}
use mathlib.Core.Path.{◌≡◌, sym, ap, ◌∙◌}
use mathlib.Core.List.{List, [], ◌∷◌, ◌++◌}
use lib.ListN.{length}
use Rattle.schedule.specs.Buffers.{put}
use Rattle.printing.specs.Fields.{Field, field, NumberLine, number_line}
use Rattle.printing.specs.Placed.{Placed}
use Rattle.printing.specs.inside.Puts.{Puts}
use Rattle.printing.specs.declared.Writer.{Writer}
use Rattle.decimals.proofs.Digits.{decimal-one}

pub field-one : {n end : ℕ} {bs cs : List ℕ} → Field n end bs → Field n end cs → bs ≡ cs
field-one {n} {end} (field d) (field e) = ap (λ ds. ds ++ (end ∷ [])) (decimal-one d e)

pub number-line-one : {label : List ℕ} {n : ℕ} {bs cs : List ℕ} → NumberLine label n bs
    → NumberLine label n cs → bs ≡ cs
number-line-one {label} (number_line d) (number_line e) = ap (λ ds. label ++ ds) (field-one d e)

-- Where the text is one, so are the bytes left and the place behind it.
pub placed-determined : {P : List ℕ → Type 0} {at next next' : ℕ} {found left left' : List ℕ}
    → ((bs cs : List ℕ) → P bs → P cs → bs ≡ cs) → Placed P at found left next → Placed P at found left' next'
    → (left ≡ left') × (next ≡ next')
placed-determined {P} {at} {found = found} one p q =
    let same = one p.bytes q.bytes p.such q.such in (
      p.leaves ∙ ap (λ bs. put at bs found) same ∙ sym q.leaves,
      p.ends ∙ ap (λ bs. at + length bs) same ∙ sym q.ends,
    )

pub puts-determined : {P : List ℕ → Type 0} {before after after' : Writer}
    → ((bs cs : List ℕ) → P bs → P cs → bs ≡ cs) → Puts P before after → Puts P before after'
    → (after.bytes.ghost_name ≡ after'.bytes.ghost_name) × (after.bytes.now ≡ after'.bytes.now)
    × (after.at ≡ after'.at)
puts-determined one p q =
    let same = placed-determined one p.placed q.placed in (p.same ∙ sym q.same, same.0, same.1)
