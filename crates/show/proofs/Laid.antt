-- Laws of a text laid on a page: nothing changes nothing, and a text and another behind it are one text.
use Prim.Native.Nat.{ℕ, ◌+◌, ◌-◌, ◌≤◌, ◌<◌, min}
use native.Mathlib.Omega.{arith}
use mathlib.Core.Path.{◌≡◌, refl, sym, ap, ◌∙◌}
use mathlib.Core.Bool.{Bool, true, false}
use mathlib.Core.List.{List, [], ◌∷◌, ◌++◌}
use lib.Dec.{leb}
use lib.ListN.{length, take, drop, length-append}
use lib.Seq.{take-append_seam}
use borrow.Author.Tests.{leb-true, leb-false}
use Rattle.std.specs.Prelude.{Option, Some, None, IfSome}
use Rattle.std.specs.List.{FoldsTo, concat}
use Rattle.std.specs.Fmt.{WritesText}
use Rattle.octets.specs.Octets.{splice}
use Rattle.octets.proofs.Splice.{splice_none, splice_splice, length_splice, splice_out, splice_fits}
use Rattle.show.specs.Text.{Page, page_at, laid}

pub page_path : {a b : ℕ} {xs ys : List ℕ} → a ≡ b → xs ≡ ys → page_at a xs ≡ page_at b ys
page_path p q = rw (p, q)

-- nothing
pub laid_none : (p : Page) → p ≡ laid p []
unfolding laid
laid_none p = page_path (omega arith) (sym (splice_none p.at p.bytes))

-- the place behind two texts
place : (at n a b : ℕ) → at + min a (n - at) + min b (n - (at + min a (n - at))) ≡ at + min (a + b) (n - at)
place at n a b = omega arith

-- a store behind as much of another as fits
stored : (at : ℕ) (a b xs : List ℕ) → splice (at + min (length a) (length xs - at)) b (splice at a xs) ≡ splice at (a ++ b) xs
stored at a b xs = go (leb (at + length a) (length xs)) refl
  where
    go : (t : Bool) → leb (at + length a) (length xs) ≡ t → splice (at + min (length a) (length xs - at)) b (splice at a xs) ≡ splice at (a ++ b) xs
    go true e =
        let h : at + length a ≤ length xs = leb-true _ _ e in
        let k : min (length a) (length xs - at) ≡ length a = omega arith in
        rw k (splice_splice at a b xs)
    go false e =
        let h : length xs < at + length a = leb-false _ _ e in
        let l = length_splice at a xs in
        splice_out _ b (splice at a xs) (omega arith)
        ∙ sym (splice_out (at + length a) b (splice at a xs) (omega arith))
        ∙ splice_splice at a b xs

-- a text and another behind it
pub laid_laid : (p : Page) (a b : List ℕ) → laid (laid p a) b ≡ laid p (a ++ b)
unfolding laid
laid_laid p a b =
    page_path (rw (length_splice p.at a p.bytes, length-append a b) (place p.at (length p.bytes) (length a) (length b)))
    (stored p.at a b p.bytes)

-- the same, as one step after another
pub then : {q r : Page} (p : Page) (a b : List ℕ) → q ≡ laid p a → r ≡ laid q b → r ≡ laid p (a ++ b)
then p a b e f = f ∙ rw e (laid_laid p a b)

-- a page read up to its place, after a text was laid at its start: the text, where it fits
pub laid_read : (xs text : List ℕ) → length text ≤ length xs → take (laid (page_at 0 xs) text).at (laid (page_at 0 xs) text).bytes ≡ text
unfolding laid
laid_read xs text h =
    let e : 0 + min (length text) (length xs - 0) ≡ length text = omega arith in
    rw (e, splice_fits 0 text xs (omega arith)) (take-append_seam text (drop (0 + length text) xs))

-- texts laid in calls, one behind another, are one text
module _ {W : Type 0} (took : W → List ℕ → W → Type 0) (read : W → Page) (each : (w : W) (text : List ℕ) (v : W) → took w text v → read v ≡ laid (read w) text) where
  laid_parts : (parts : List (List ℕ)) (w v : W) → FoldsTo took w parts v → read v ≡ laid (read w) (concat parts)
  laid_parts [] w v h = rw (sym h) (laid_none (read w))
  laid_parts (x ∷ xs) w v (j, here, rest) = laid_parts xs j v rest ∙ (ap (λ p. laid p (concat xs)) (each w x j here) ∙ laid_laid (read w) x (concat xs))

  pub laid_written : (o : Option (List ℕ)) (w v : W) → WritesText took w o v → IfSome o (λ text. read v ≡ laid (read w) text)
  laid_written None w v h = h
  laid_written (Some text) w v h = laid_parts h.parts w v h.calls ∙ ap (laid (read w)) h.whole
