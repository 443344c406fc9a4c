-- Two results that meet explain's contract coincide: the output, how long it is,
-- and what is left in the work slice and the tree buffer.
use mathlib.Core.Path.{◌≡◌, sym, ap, subst, ◌∙◌}
use mathlib.Core.List.{List}
use Prim.Native.Nat.{ℕ, ◌+◌}
use native.Mathlib.Omega.{arith}
use lib.ListN.{length, take}
use Rattle.asking.specs.Questions.{question}
use Rattle.wording.specs.Wrote.{Wrote}
use Rattle.wording.proofs.DeterminedWrote.{write-one}
use Rattle.schedule.specs.Buffers.{put}
use Rattle.questions.proofs.Wholes.{whole-one, whole-not-wrong, wrong-one}
use Rattle.rendering.specs.Texts.{Rendered, WrongText}
use Rattle.rendering.proofs.Determined.{rendered-one, wrong-text-one, long-text-one}
use Rattle.explain_text.specs.Explained.{Output, long, wrong, answered, Explained}

-- The same output, and the same buffers.
pub record SameOutput (work_left work_left' tree_left tree_left' bytes bytes' : List ℕ) : Type 0 where
  pub work : work_left ≡ work_left'
  pub tree : tree_left ≡ tree_left'
  pub output : bytes ≡ bytes'

module _ {text work tree : List ℕ} where
  output-one : {work_left work_left' tree_left tree_left' bytes bytes' : List ℕ}
      → Output text work work_left tree tree_left bytes → Output text work work_left' tree tree_left' bytes'
      → SameOutput work_left work_left' tree_left tree_left' bytes bytes'
  output-one (long lt w t l) (long lt' w' t' l') =
      record { work = w ∙ sym w'; tree = t ∙ sym t'; output = long-text-one l l' }
  output-one (long lt w t l) (wrong n le x w' t' l') = absurd (omega (arith, lt, le))
  output-one (long lt w t l) (answered s e i k r le x wr l') = absurd (omega (arith, lt, le))
  output-one (wrong n le x w t l) (long lt w' t' l') = absurd (omega (arith, lt, le))
  output-one {bytes = bytes} (wrong n le x w t l) (wrong m le' y w' t' l') =
      record {
        work = w ∙ sym w';
        tree = t ∙ sym t';
        output = wrong-text-one (subst (λ k. WrongText k bytes) (wrong-one x y) l) l';
      }
  output-one (wrong n le x w t l) (answered s e i k r le' y wr l') = absurd (whole-not-wrong y x)
  output-one (answered s e i k r le x wr l) (long lt w' t' l') = absurd (omega (arith, lt, le))
  output-one (answered s e i k r le x wr l) (wrong n le' y w' t' l') = absurd (whole-not-wrong x y)
  output-one {work_left} {work_left'} {tree_left} {tree_left'} {bytes} (answered s e i k r le x wr l)
      (answered s' e' i' k' r' le' y wr' l') =
      let whole = whole-one x y in
      let asked : question s.prefix s.loop s.table e i
      ≡ question s'.prefix s'.loop s'.table e' i'
      = λ k. let t = whole.says k in
      question t.prefix t.loop t.table (whole.entries k) (whole.positions k) in
      let here = subst (λ q. Wrote q work work_left tree tree_left r) asked wr in
      let one = write-one (question s'.prefix s'.loop s'.table e' i') work tree work_left work_left'
      tree_left tree_left' r r' here wr' in
      record {
        work = one.1;
        tree = one.2;
        output = rendered-one (subst (λ g. Rendered g (take g.size tree_left') bytes) one.0
            (subst (λ t. Rendered r (take r.size t) bytes) one.2 l)) l';
      }

  pub explain-one : {work_left work_left' tree_left tree_left' out out_left out_left' : List ℕ} {r r' : ℕ}
      → Explained text work work_left tree tree_left out out_left r
      → Explained text work work_left' tree tree_left' out out_left' r'
      → (r ≡ r') × (out_left ≡ out_left') × (work_left ≡ work_left') × (tree_left ≡ tree_left')
  explain-one {out = out} a b =
      let same = output-one a.such b.such in (
        a.ends ∙ ap (λ bs. 0 + length bs) same.output ∙ sym b.ends,
        a.leaves ∙ ap (λ bs. put 0 bs out) same.output ∙ sym b.leaves,
        same.work,
        same.tree,
      )
