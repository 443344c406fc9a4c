-- A buffer keeps the first numbers of a list: how a number more is put.
use mathlib.Core.Path.{◌≡◌, refl, sym, ap, ◌∙◌}
use mathlib.Core.List.{List, [], ◌∷◌, ◌++◌}
use Prim.Native.Nat.{ℕ}
use lib.ListN.{length, take, drop, set}
use Rattle.schedule.specs.Buffers.{put}
use Rattle.schedule.proofs.Buffers.{put_front}

-- What is kept, in a form that computes.
abbrev front : List ℕ → List ℕ → List ℕ
front found ns = take (length found) ns ++ drop (length (take (length found) ns)) found

front-none : (found : List ℕ) → found ≡ front found []
front-none [] = refl
front-none (x ∷ found) = refl

front-more : (found ns : List ℕ) (n : ℕ) → set (front found ns) (length ns) n ≡ front found (ns ++ n ∷ [])
front-more [] [] n = refl
front-more [] (m ∷ ns) n = refl
front-more (x ∷ found) [] n = ap (λ l. n ∷ l) (front-none found)
front-more (x ∷ found) (m ∷ ns) n = ap (λ l. m ∷ l) (front-more found ns n)

pub kept-none : (found : List ℕ) → found ≡ put 0 (take (length found) []) found
kept-none found = front-none found ∙ sym (put_front (take (length found) []) found)

pub kept_more : (found ns : List ℕ) (n : ℕ)
    → set (put 0 (take (length found) ns) found) (length ns) n
    ≡ put 0 (take (length found) (ns ++ n ∷ [])) found
kept_more found ns n =
    ap (λ l. set l (length ns) n) (put_front (take (length found) ns) found)
    ∙ front-more found ns n
    ∙ sym (put_front (take (length found) (ns ++ n ∷ [])) found)
