-- An entry's atom is below 32, so it fits the field of a word.
use Prim.Native.Nat.{ℕ, ◌/◌, ◌%◌, ◌<◌}
use mathlib.Core.Path.{◌≡◌}
use mathlib.Core.Bool.{true, ◌&&◌}
use native.Mathlib.Omega.{arith}
use borrow.Author.Tests.{ltb-true}
use lib.Dec.{eqb, ltb, leb}
use Rattle.rules.specs.Formula.{Formula}
use Rattle.rules.specs.Tables.{joined, build}
use Rattle.rules.specs.Entries.{is_alone, are_earlier, binary_of, entry_of}
use Rattle.rules.specs.declared.Entry.{Entry}
use Rattle.rules.specs.declared.Entry.TheVariants.{One, Broken}
use Rattle.rules.specs.declared.Unary.TheVariants.{Not}
use Rattle.rules.specs.declared.Binary.{Binary}
use Rattle.rules.specs.declared.Binary.TheVariants.{Or, And, Since, Until}
use Rattle.rules.proofs.Entries.{cond-elim}
use Rattle.schedule.proofs.Tests.{and_both}
use Rattle.trees.proofs.Needs.{formula_atom}

record SmallAtom (x : Entry) : Type 0 where
  small : (part : ℕ → Formula) → formula_atom (build part x) < 32

joined_small : (op : Binary) (f g : Formula) → formula_atom (joined op f g) < 32
joined_small Or f g = omega arith
joined_small And f g = omega arith
joined_small Since f g = omega arith
joined_small Until f g = omega arith

alone-small : (l r : ℕ) → is_alone 32 l r ≡ true → l < 32
alone-small l r e = ltb-true l 32 (and_both (ltb l 32) (eqb r 0) e).0

pub atom-small : (i w : ℕ) (part : ℕ → Formula) → formula_atom (build part (entry_of i w)) < 32
unfolding entry_of
atom-small i w =
    let k = w / 65536 in
    let l = w / 256 % 256 in
    let r = w % 256 in
    let none : SmallAtom Broken = record { small = λ part. omega arith } in
    let negated : SmallAtom (One Not l) = record { small = λ part. omega arith } in
    (cond-elim SmallAtom (eqb k 0)
    (λ _. cond-elim SmallAtom (is_alone 32 l r)
    (λ e. record { small = λ part. alone-small l r e }) (λ _. none))
    (λ _. cond-elim SmallAtom (eqb k 1) (λ _. cond-elim SmallAtom (is_alone i l r) (λ _. negated) (λ _. none))
    (λ _. cond-elim SmallAtom (are_earlier i l r && (leb 2 k && leb k 5))
    (λ _. record { small = λ part. joined_small (binary_of k) (part l) (part r) }) (λ _. none)))).small
