-- An answer and its tree have one text: two results of a function that writes it coincide.
use Prim.Native.Nat.{ℕ}
use mathlib.Core.Path.{◌≡◌, refl}
use mathlib.Core.List.{List, ◌++◌}
use native.Mathlib.Omega.{arith}
use Rattle.schedule.specs.Figures.{Figures}
use Rattle.rendering.specs.Texts.{node_is, NodeLine, node_line, NodeLines, none, more, VerdictLine, holds}
use Rattle.rendering.specs.Texts.{violated, Rendered, refused, judged, WrongText, wrong_text, LongText}
use Rattle.printing.proofs.Determined.{field-one, number-line-one}

pub node-line-one : {w : ℕ} {bs cs : List ℕ} → NodeLine w bs → NodeLine w cs → bs ≡ cs
node-line-one (node_line r a n) (node_line r' a' n') =
    let rule = field-one r r' in
    let atom = field-one a a' in
    let number = field-one n n' in
    λ i. node_is ++ (rule i ++ (atom i ++ number i))

pub node-lines-one : {ws bs cs : List ℕ} → NodeLines ws bs → NodeLines ws cs → bs ≡ cs
node-lines-one none none = refl
node-lines-one (more l ls) (more k ks) =
    let line = node-line-one l k in
    let lines = node-lines-one ls ks in
    λ i. line i ++ lines i

verdict-line-one : {v : ℕ} {bs cs : List ℕ} → VerdictLine v bs → VerdictLine v cs → bs ≡ cs
verdict-line-one (holds e) (holds f) = refl
verdict-line-one (holds e) (violated f) = absurd (omega (arith, e, f))
verdict-line-one (violated e) (holds f) = absurd (omega (arith, e, f))
verdict-line-one (violated e) (violated f) = refl

pub rendered-one : {f : Figures} {ws bs cs : List ℕ} → Rendered f ws bs → Rendered f ws cs → bs ≡ cs
rendered-one (refused some other l) (refused some' other' k) = number-line-one l k
rendered-one (refused some other l) (judged zero v s ls) = absurd (omega (arith, some, zero))
rendered-one (judged zero v s ls) (refused some other l) = absurd (omega (arith, some, zero))
rendered-one (judged zero v s ls) (judged zero' v' s' ls') =
    let verdict = verdict-line-one v v' in
    let size = number-line-one s s' in
    let lines = node-lines-one ls ls' in
    λ i. verdict i ++ (size i ++ lines i)

pub wrong-text-one : {line : ℕ} {bs cs : List ℕ} → WrongText line bs → WrongText line cs → bs ≡ cs
wrong-text-one (wrong_text r l) (wrong_text r' l') =
    let first = number-line-one r r' in
    let second = number-line-one l l' in
    λ i. first i ++ second i

pub long-text-one : {bs cs : List ℕ} → LongText bs → LongText cs → bs ≡ cs
long-text-one = number-line-one
