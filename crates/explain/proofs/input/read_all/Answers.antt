-- `explain::input::read_all`: a read puts the next bytes of the input behind those that have come.
use Rattle.std.proofs.Common.{◌≡◌, ℕ, ◌+◌, ◌≤◌, List, ◌++◌, arith, length, take, drop, sym, ap, ◌∙◌}
use Rattle.std.proofs.Common.{subst, le_refl, drop_at, length-take-le}
use Rattle.std.proofs.lemmas.Slice.{take-put_mid_below}
use Rattle.std.proofs.KnownBytes.{Consumes-trans, Consumes-kept}
use Rattle.std.specs.Io.KnownBytes.{Consumes, Keeps}
use Rattle.std.specs.declared.option.Option.{Option}
use borrow.Rule.Slice.PartMut.{put_mid, post_of, same_len_mid}
use lib.Seq.{take-add, take-append-le}
use Rattle.explain.proofs.input.read_all.Goals as goal
use Rattle.explain.proofs.input.read_all.Goals.{in-Ok, in-Err+else-ne}

module _ (text part : List ℕ) (at room : ℕ) (within : at ≤ length text) where
  kept-front : take at (put_mid at room text part) ≡ take at text
  kept-front = take-put_mid_below at room text part at (le_refl at) within

  more-front : (n : ℕ) → n ≤ length part
      → take (at + n) (put_mid at room text part) ≡ take at text ++ take n part
  more-front n fits =
      let after = post_of at room text in
      take-add at n (put_mid at room text part)
      ∙ ap (λ l. l ++ take n (drop at (put_mid at room text part))) kept-front
      ∙ ap (λ l. take at text ++ take n l)
      (drop_at (take at text) (part ++ after) at (length-take-le at text within))
      ∙ ap (λ l. take at text ++ l) (take-append-le n part after fits)

  module _ (a b c : Option (List ℕ)) (m : ℕ) (before : Consumes a b (take at text)) where
    read-more : (n : ℕ) → m ≡ at + n → n ≤ length part → Consumes b c (take n part)
        → Consumes a c (take m (put_mid at room text part))
    read-more n is fits bytes =
        subst (Consumes a c) (sym (ap (λ k. take k (put_mid at room text part)) is ∙ more-front n fits))
        (Consumes-trans a b c (take at text) (take n part) before bytes)

    read-none : m ≡ at → Keeps b c → Consumes a c (take m (put_mid at room text part))
    read-none is keeps =
        subst (Consumes a c) (sym (ap (λ k. take k (put_mid at room text part)) is ∙ kept-front))
        (Consumes-kept a b c (take at text) before keeps)

pub loop-preserved : goal.loop-preserved
loop-preserved g c =
    let within = c.loop.invariant.0 in
    let long = same_len_mid _ _ c.loop.text c.read.new.buf c.read.auto.buf in
    elim c.match-read.branch [
      | in-Ok w ↦ (
        omega (arith, long, w.in-Ok.ensures.bound.0, c.read.auto.buf),
        read-more c.loop.text c.read.new.buf c.loop.len _ within _ _ _ _ c.loop.invariant.1 w.in-Ok.n w.len-is
            w.in-Ok.ensures.bound.0 w.in-Ok.ensures.bytes.0,
      )
      | in-Err+else-ne w ↦ (
        omega (arith, long),
        read-none c.loop.text c.read.new.buf c.loop.len _ within _ _ _ _ c.loop.invariant.1 w.len-is
            w.in-Err.ensures.bytes,
      )
    ]
