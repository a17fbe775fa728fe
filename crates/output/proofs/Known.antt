-- Bytes that are known, part by part: a front of them is written, and the rest waits.
use Rattle.std.proofs.Common.{◌≡◌, ℕ, ◌+◌, ◌-◌, ◌≤◌, List, [], ◌++◌, length, take, drop, Option, Result, Ok, Err, OnOk, append-nil, sym, ap, subst, ◌∙◌, arith, length-take, length-drop, take_all, take-append-drop}
use lib.Seq.{paste, take-add}
use Rattle.std.specs.List.{copy_within}
use Rattle.std.specs.Io.KnownBytes.{Keeps, Appends, append_known}
use Rattle.std.proofs.lemmas.List.{drop-take}
use Rattle.std.proofs.lemmas.List.Edits.{take-paste}
use Rattle.std.proofs.KnownBytes.{Appends-trans, append_known-moved, append_known-passed}

-- a front, and then more, which is the start of what is left
pub front_grown : (a b c : Option (List ℕ)) (xs left : List ℕ) (n k : ℕ) → n ≤ length xs → left ≡ take (length xs - n) (drop n xs) → Appends a b (take n xs) → k ≤ length left → Appends b c (take k left) → (n + k ≤ length xs) × Appends a c (take (n + k) xs)
front_grown a b c xs left n k fits is first most more =
    let long = length-drop n xs in
    let all : left ≡ drop n xs = is ∙ take_all (length xs - n) (drop n xs) (omega arith) in
    let short : k ≤ length (drop n xs) = subst (λ l. k ≤ length l) all most in
    (omega arith, subst (Appends a c) (sym (take-add n k xs)) (Appends-trans a b c _ _ first (subst (λ l. Appends b c (take k l)) all more)))

-- what is left of a front is moved before it
pub rest_moved : (xs moved : List ℕ) (n m : ℕ) → n ≤ m → m ≤ length xs → moved ≡ copy_within xs n m 0 → take (m - n) moved ≡ drop n (take m xs)
rest_moved xs moved n m before fits is =
    let long = length-drop n xs in
    let parts : m ≡ n + (m - n) = omega arith in
    let none : m - n ≡ 0 + (m - n) = omega arith in
    ap (take (m - n)) is ∙ ap (λ k. take k (paste xs 0 (drop n xs) (m - n))) none ∙ take-paste xs 0 (drop n xs) (m - n) (omega arith) (omega arith) ∙ sym (ap (λ k. drop n (take k xs)) parts ∙ drop-take n (m - n) xs)

-- so what was handed over stays, where its front is written
pub rest_waits : (a b : Option (List ℕ)) (xs moved : List ℕ) (n m : ℕ) → n ≤ length (take m xs) → m ≤ length xs → moved ≡ copy_within xs n m 0 → Appends a b (take n (take m xs)) → Keeps (append_known a (take m xs)) (append_known b (take (m - n) moved))
rest_waits a b xs moved n m part fits is written =
    let long = length-take m xs in
    append_known-moved a b (take n (take m xs)) (take (m - n) moved) (take m xs) written (sym (take-append-drop n (take m xs)) ∙ ap (λ l. take n (take m xs) ++ l) (sym (rest_moved xs moved n m (omega arith) fits is)))

-- where nothing waits, what is written at once stands behind what was handed over
pub passed_on : {T E : Type 0} (r : Result T E) (a b c : Option (List ℕ)) (xs bytes : List ℕ) (n : ℕ) → n ≡ 0 → Keeps a (append_known b (take n xs)) → OnOk r (Appends b c bytes) → OnOk r (Appends a (append_known c (take n xs)) bytes)
passed_on (Ok t) a b c xs bytes n none same more =
    let empty : take n xs ≡ [] = ap (λ k. take k xs) none in
    subst (Appends a _) (append-nil bytes) (append_known-passed a b c (take n xs) (take n xs) bytes [] same empty more (sym (append-nil (take n xs))))
passed_on (Err e) a b c xs bytes n none same more = tt
