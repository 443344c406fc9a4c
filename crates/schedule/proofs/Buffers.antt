-- Words put into a list from a place on: none is nothing, one word is a store,
-- and words put behind others are put together.
use Prim.Native.Nat.{ℕ, ◌+◌, ◌<◌, ◌≤◌}
use mathlib.Core.Path.{◌≡◌, sym, ap, ◌∙◌}
use mathlib.Core.List.{List, [], ◌∷◌, ◌++◌, append_assoc}
use native.Mathlib.Nat.{add-zero, zero-add}
use native.Mathlib.Numerals.{add-one}
use native.Mathlib.Omega.{arith}
use lib.ListN.{length, take, drop, set, length-append, length-drop, take-append-drop}
use lib.Seq.{length-take-le, set_split, take_at, drop-append-add, drop-drop}
use Rattle.schedule.specs.Buffers.{put}

pub put-none : (at : ℕ) (found : List ℕ) → found ≡ put at [] found
unfolding put
put-none at found =
    sym (take-append-drop at found) ∙ ap (λ k. take at found ++ drop k found) (sym (add-zero at))

pub put_one : (at w : ℕ) (found : List ℕ) → at < length found → set found at w ≡ put at (w ∷ []) found
unfolding put
put_one at w found lt =
    set_split found at w lt ∙ ap (λ k. take at found ++ (w ∷ drop k found)) (sym (add-one at))

module _ (at : ℕ) (ws found : List ℕ) (room : at + length ws ≤ length found) where
  -- what stands up to the end of the words
  front_length : length (take at found ++ ws) ≡ at + length ws
  front_length = omega (arith, length-append (take at found) ws, length-take-le at found (omega arith))

  put-split : put at ws found ≡ (take at found ++ ws) ++ drop (at + length ws) found
  unfolding put
  put-split = sym (append_assoc (take at found) ws (drop (at + length ws) found))

  pub put-length : length (put at ws found) ≡ length found
  put-length =
      omega (
        arith,
        ap length put-split,
        length-append (take at found ++ ws) (drop (at + length ws) found),
        front_length,
        length-drop (at + length ws) found,
      )

  pub put-put : (vs : List ℕ) → put (at + length ws) vs (put at ws found) ≡ put at (ws ++ vs) found
  unfolding put
  put-put vs =
      let rest = drop (at + length ws) found in
      let reach : at + length ws + length vs ≡ length (take at found ++ ws) + length vs
      = omega (arith, front_length) in
      let end : at + length ws + length vs ≡ at + length (ws ++ vs) = omega (arith, length-append ws vs) in
      ap (λ l. take (at + length ws) l ++ (vs ++ drop (at + length ws + length vs) l)) put-split
      ∙ ap (λ l. l ++ (vs ++ drop (at + length ws + length vs) ((take at found ++ ws) ++ rest)))
      (take_at (take at found ++ ws) rest (at + length ws) front_length)
      ∙ ap (λ l. (take at found ++ ws) ++ (vs ++ l))
      (ap (λ k. drop k ((take at found ++ ws) ++ rest)) reach
      ∙ drop-append-add (take at found ++ ws) rest (length vs) ∙ drop-drop (length vs) (at + length ws) found
      ∙ ap (λ k. drop k found) end)
      ∙ append_assoc (take at found) ws (vs ++ drop (at + length (ws ++ vs)) found)
      ∙ ap (λ l. take at found ++ l) (sym (append_assoc ws vs (drop (at + length (ws ++ vs)) found)))

-- At the front.
pub put_front : (words found : List ℕ) → put 0 words found ≡ words ++ drop (length words) found
unfolding put
put_front words found = ap (λ k. words ++ drop k found) (zero-add (length words))
