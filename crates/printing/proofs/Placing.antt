-- Bytes placed one after another are placed together, and how a number and a text are placed byte by byte.
use Prim.Native.Nat.{ℕ, ◌+◌, ◌*◌, ◌/◌, ◌%◌, ◌<◌, ◌≤◌}
use mathlib.Core.Path.{◌≡◌, refl, sym, ap, subst, ◌∙◌}
use mathlib.Core.List.{List, [], ◌∷◌, ◌++◌}
use native.Mathlib.Omega.{arith}
use lib.ListN.{length, take, drop, set, length-append}
use lib.Seq.{drop-drop}
use borrow.Rule.Slice.PartMut.{put_mid}
use Rattle.schedule.specs.Buffers.{put}
use Rattle.schedule.proofs.Buffers.{put-none, put_one, put-length, put-put}
use Rattle.decimals.specs.Decimals.{Decimal, digit, longer}
use Rattle.printing.specs.Fields.{Field, field}
use Rattle.printing.specs.Placed.{Placed}
use Rattle.printing.specs.inside.Puts.{Puts}
use Rattle.printing.specs.declared.Writer.{Writer}
use Rattle.decimals.proofs.Digits.{decimal-length}

pub placed-length : {P : List ℕ → Type 0} {at next : ℕ} {found left : List ℕ} → Placed P at found left next
    → length left ≡ length found
placed-length {P} {at} {next} {found} {left} p =
    ap length p.leaves ∙ put-length at p.bytes found (omega (arith, p.ends, p.inside))

pub placed-none : (at : ℕ) (found : List ℕ) → at ≤ length found → Placed (λ bs. bs ≡ []) at found found at
placed-none at found le =
    record { bytes = []; such = refl; ends = omega arith; inside = le; leaves = put-none at found }

pub placed_one : (at b : ℕ) (found : List ℕ) → at < length found
    → Placed (λ bs. bs ≡ b ∷ []) at found (set found at b) (at + 1)
placed_one at b found lt = record {
  bytes = b ∷ [];
  such = refl;
  ends = omega arith;
  inside = omega (arith, lt);
  leaves = put_one at b found lt;
}

pub placed-as : {P Q : List ℕ → Type 0} {at next : ℕ} {found left : List ℕ} → ((bs : List ℕ) → P bs → Q bs)
    → Placed P at found left next → Placed Q at found left next
placed-as f p = record {
  bytes = p.bytes;
  such = f p.bytes p.such;
  ends = p.ends;
  inside = p.inside;
  leaves = p.leaves;
}

pub placed-then : {P Q R : List ℕ → Type 0} {at middle next : ℕ} {found between left : List ℕ}
    → ((xs ys : List ℕ) → P xs → Q ys → R (xs ++ ys)) → Placed P at found between middle
    → Placed Q middle between left next → Placed R at found left next
placed-then {P} {Q} {R} {at} {middle} {next} {found} {between} {left} join p q =
    let xs = p.bytes in
    let ys = q.bytes in
    record {
      bytes = xs ++ ys;
      such = join xs ys p.such q.such;
      ends = omega (arith, p.ends, q.ends, length-append xs ys);
      inside = omega (arith, q.inside, placed-length p);
      leaves = q.leaves ∙ ap (λ m. put m ys between) p.ends ∙ ap (put (at + length xs) ys) p.leaves
          ∙ put-put at xs found (omega (arith, p.ends, p.inside)) ys;
    }

-- A text that is copied over part of the bytes.
put-mid : (at k : ℕ) (found bs : List ℕ) → k ≡ length bs → put_mid at k found bs ≡ put at bs found
unfolding put
put-mid at k found bs e =
    ap (λ l. take at found ++ (bs ++ l)) (drop-drop k at found ∙ ap (λ j. drop (at + j) found) e)

pub copy-placed : (at k : ℕ) (found text bs : List ℕ) → at + length text ≤ length found → k ≡ length text
    → bs ≡ text → Placed (λ l. l ≡ text) at found (put_mid at k found bs) (at + length text)
copy-placed at k found text bs room e same = record {
  bytes = text;
  such = refl;
  ends = refl;
  inside = room;
  leaves = ap (put_mid at k found) same ∙ put-mid at k found text e;
}

-- Bytes that an output is given one after another, and what is known of bytes in other words.
pub puts-then : {P Q R : List ℕ → Type 0} {before between after : Writer}
    → ((xs ys : List ℕ) → P xs → Q ys → R (xs ++ ys)) → Puts P before between → Puts Q between after
    → Puts R before after
puts-then join p q =
    record { same = q.same ∙ p.same; placed = placed-then join p.placed q.placed }

pub puts-none : (output : Writer) → output.at ≤ length output.bytes.now
    → Puts (λ bs. bs ≡ []) output output
puts-none output le = record { same = refl; placed = placed-none output.at output.bytes.now le }

pub puts-as : {P Q : List ℕ → Type 0} {before after : Writer} → ((bs : List ℕ) → P bs → Q bs)
    → Puts P before after → Puts Q before after
puts-as f p = record { same = p.same; placed = placed-as f p.placed }

pub puts-length : {P : List ℕ → Type 0} {before after : Writer} → Puts P before after
    → length after.bytes.now ≡ length before.bytes.now
puts-length p = placed-length p.placed

-- What an output was given that began at the front of lent bytes.
pub puts-front : {P : List ℕ → Type 0} {found : List ℕ} (before after : Writer) → before.bytes.now ≡ found
    → before.at ≡ 0 → Puts P before after → Placed P 0 found after.bytes.now after.at
puts-front {P} before after e z p =
    subst (λ l. Placed P 0 l after.bytes.now after.at) e
    (subst (λ k. Placed P k before.bytes.now after.bytes.now after.at) z p.placed)

pub text-ends : {text : List ℕ} {before after : Writer} → Puts (λ bs. bs ≡ text) before after
    → after.at ≡ before.at + length text
text-ends p = omega (arith, p.placed.ends, ap length p.placed.such)

pub digit-placed : (at n : ℕ) (found : List ℕ) → at + 10 ≤ length found → n < 10
    → Placed (λ ds. Decimal ds n) at found (set found at (48 + n)) (at + 1)
digit-placed at n found room lt =
    placed-as (λ bs e. subst (λ l. Decimal l n) (sym e) (digit lt))
    (placed_one at (48 + n) found (omega (arith, room)))

longer-is : (n : ℕ) → 10 ≤ n → (xs ys : List ℕ) → Decimal xs (n / 10) → ys ≡ (48 + n % 10) ∷ []
    → Decimal (xs ++ ys) n
longer-is n le xs ys d e =
    let whole : n / 10 * 10 + n % 10 ≡ n = omega arith in
    subst (Decimal (xs ++ ys)) whole
    (subst (λ l. Decimal (xs ++ l) (n / 10 * 10 + n % 10)) (sym e)
    (longer d (omega (arith, le)) (omega arith)))

module _ {at middle n : ℕ} {found between : List ℕ}
    (p : Placed (λ ds. Decimal ds n) at found between middle) where
  pub nine-digits : n < 1000000000 → middle ≤ at + 9
  nine-digits lt = omega (arith, p.ends, decimal-length 8 p.such (omega (arith, lt)))

-- The digits before the last, and the last.
pub longer-placed : (at n : ℕ) (found between : List ℕ) (middle : ℕ) → at + 10 ≤ length found → 10 ≤ n
    → n < 4294967296 → Placed (λ ds. Decimal ds (n / 10)) at found between middle
    → Placed (λ ds. Decimal ds n) at found (set between middle (48 + n % 10)) (middle + 1)
longer-placed at n found between middle room le lt p =
    placed-then (longer-is n le) p
    (placed_one middle (48 + n % 10) between
    (omega (arith, room, placed-length p, nine-digits p (omega (arith, lt)))))

-- No number of 32 bits has more than ten digits.
pub digits-most : {n : ℕ} → n < 4294967296 → {before between : Writer}
    → Puts (λ ds. Decimal ds n) before between → between.at ≤ before.at + 10
digits-most small p = omega (arith, p.placed.ends, decimal-length 9 p.placed.such (omega (arith, small)))

-- A number and the byte that ends it.
pub field-put : {n end : ℕ} {before between after : Writer} → Puts (λ ds. Decimal ds n) before between
    → Puts (λ bs. bs ≡ end ∷ []) between after → Puts (Field n end) before after
field-put {n} {end} p q = puts-then (λ xs ys d e. subst (λ l. Field n end (xs ++ l)) (sym e) (field d)) p q
