-- What the text program's output is, a law a return: 14, 13, or what write answers
-- to the question that was read.
use mathlib.Core.Path.{◌≡◌, refl, ap, subst, ◌∙◌}
use mathlib.Core.List.{List}
use Prim.Native.Nat.{ℕ, ◌+◌, ◌<◌, ◌≤◌, min}
use native.Mathlib.Omega.{arith}
use lib.ListN.{length, take, drop, length-append, length-take}
use lib.Seq.{take-append_seam}
use Rattle.std.specs.Prelude.{Result, Ok, Err}
use Rattle.schedule.specs.Figures.{Figures}
use Rattle.asking.specs.Answers.{figures_of}
use Rattle.asking.specs.Questions.{Question, question}
use Rattle.schedule.specs.Limits.{max_words}
use Rattle.wording.specs.Wrote.{Written, unwritten, too_short, written, Wrote}
use Rattle.asking.specs.declared.Refusal.{Refusal}
use Rattle.asking.specs.declared.Judged.{Judged}
use Rattle.finding.proofs.Working.{worked-answer, worked-passed}
use Rattle.questions.specs.Texts.{ask_key, Said, Line, prefixed, looped, entered, RightLines, begun, further}
use Rattle.questions.specs.Texts.{WrongLine, stuck, goes_on}
use Rattle.lists.specs.Lines.{line_of}
use Rattle.questions.specs.inside.Questions.{Understood}
use Rattle.questions.specs.declared.TextRead.{TextRead}
use Rattle.rendering.specs.Texts.{Rendered, WrongText, LongText}
use Rattle.printing.specs.Placed.{Placed}
use Rattle.printing.proofs.Placing.{placed-as}
use Rattle.explain_text.specs.Explained.{max_text, Output}
use Rattle.explain_text.specs.Explained
use Rattle.explain_text.proofs.Capped.{capped-wrote}
use Rattle.schedule.proofs.Buffers.{put_front}
use Rattle.schedule.specs.Buffers.{put}

-- What is kept of a list: its beginning.
pub kept-count : (size : ℕ) {count n : ℕ} (ns : List ℕ) → n ≡ min count size → count ≡ length ns
    → n ≡ length (take size ns)
kept-count size ns e counted = e ∙ ap (λ c. min c size) counted ∙ omega (arith, length-take size ns)

pub kept-front : (size : ℕ) {count n : ℕ} (ns found : List ℕ) {left : List ℕ} → n ≡ min count size
    → count ≡ length ns → left ≡ put 0 (take size ns) found → take n left ≡ take size ns
kept-front size ns found e counted is =
    let kept = take size ns in
    (λ i. take (kept-count size ns e counted i) ((is ∙ put_front kept found) i))
    ∙ take-append_seam kept (drop (length kept) found)

-- A line has a byte at least, so there are no more lines than bytes.
line-some : {k : ℕ} {s t : Said} {bs : List ℕ} → Line k s bs t → 1 ≤ length bs
line-some (prefixed z ls) = omega arith
line-some (looped o ls) = omega arith
line-some (entered le cs) = omega arith

lines-few : {k : ℕ} {bs : List ℕ} {s : Said} → RightLines k bs s → k ≤ length bs
lines-few begun = omega arith
lines-few (further {bs} {new} r l) = omega (arith, lines-few r, line-some l, length-append bs new)

pub wrong-few : {text : List ℕ} {k : ℕ} → WrongLine text k → k ≤ length text + 2
wrong-few (stuck b more whole) =
    omega (arith, lines-few b.right, ap length b.whole, length-append b.front b.rest)
wrong-few (goes_on b is) =
    let w = b.asked in
    omega (
      arith,
      w.count,
      lines-few w.right,
      ap length w.whole,
      length-append w.front (line_of ask_key w.fields),
      ap length b.whole,
      length-append b.front b.rest,
    )

-- The size is no larger than a tree may be, and than what is left in the buffer.
module _ {q : Question} {tree left : List ℕ} where
  written-few : {r : Figures} → Written q tree left r → (r.size ≤ max_words) × (r.size ≤ length left)
  written-few (unwritten a) = (omega arith, omega arith)
  written-few (too_short l le lt) = (omega arith, omega arith)
  written-few (written words l le room is) = (
    le,
    omega (arith, ap length (is ∙ put_front words tree), length-append words (drop (length words) tree)),
  )

  pub wrote-few : {work work_left : List ℕ} (o : Result Judged Refusal)
      → Wrote q work work_left tree left (figures_of o)
      → ((figures_of o).size ≤ max_words) × ((figures_of o).size ≤ length left)
  wrote-few (Err x) w = (omega arith, omega arith)
  wrote-few (Ok j) w = written-few (worked-answer (worked-passed refl w.answer) w.answer)

module _ {text work tree out out_left : List ℕ} {r : ℕ} where
  pub output-long : max_text < length text → Placed LongText 0 out out_left r
      → Placed (Output text work work tree tree) 0 out out_left r
  output-long lt = placed-as (λ bs t. Explained.long lt refl refl t)

  pub output-wrong : {line_of : ℕ} → length text ≤ max_text → WrongLine text line_of
      → Placed (WrongText line_of) 0 out out_left r
      → Placed (Output text work work tree tree) 0 out out_left r
  output-wrong {line_of} le w = placed-as (λ bs t. Explained.wrong line_of le w refl refl t)

-- The answer to the question that was read, from the lists that were kept.
pub output-answered : {text work work_left tree tree_left out out_left : List ℕ} {r : ℕ}
    {pf pn lf ln tf tn : List ℕ} {q : TextRead} {figures : Figures} {n m k : ℕ} → length text ≤ max_text
    → (u : Understood text pf pn lf ln tf tn q) → n ≡ min q.prefix 49 → m ≡ min q.looped 49
    → k ≡ min q.entries 33
    → Wrote (question (take n pn) (take m ln) (take k tn) q.entry q.position) work work_left tree
    tree_left figures
    → Placed (Rendered figures (take figures.size tree_left)) 0 out out_left r
    → Placed (Output text work work_left tree tree_left) 0 out out_left r
output-answered {work = work} {work_left} {tree} {tree_left} {pf = pf} {pn} {lf} {ln} {tf} {tn} {q} {figures}
    {n} {m} {k} le u en em ek w =
    let s = u.says in
    let front = kept-front 49 s.prefix pf en u.prefix u.prefix-kept in
    let loop = kept-front 49 s.loop lf em u.looped u.loop-kept in
    let table = kept-front 33 s.table tf ek u.entries u.table_kept in
    let capped = subst (λ a. Wrote a work work_left tree tree_left figures)
    (λ j. question (front j) (loop j) (table j) q.entry q.position) w in
    placed-as (λ bs t. Explained.answered s q.entry q.position u.lines figures le u.whole
    (capped-wrote s.prefix s.loop s.table q.entry q.position capped) t)
