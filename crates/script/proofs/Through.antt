-- A call on the fronts of the buffers is the call on what is lent of them, and a table of another length is refused with 1.
use Prim.Native.Nat.{ℕ, zero, suc, min}
use Rattle.std.specs.Prelude.{Option, Result}
use native.Mathlib.Omega.{arith}
use mathlib.Core.Bool.{false}
use mathlib.Core.Path.{◌≡◌, refl, sym, ap, ◌∙◌}
use mathlib.Core.List.{List, [], ◌∷◌, ◌++◌}
use lib.ListN.{length, take, drop, length-append, length-take, take-append-drop}
use lib.Seq.{take_at, take-length}
use lib.Dec.{eqb}
use borrow.Author.Tests.{ne_eqb}
use Rattle.octets.proofs.Splice.{take_clamped}
use Rattle.protocol.specs.declared.SdoClientInfo.{SdoClientInfo}
use Rattle.protocol.specs.declared.Connection.{Connection}
use Rattle.protocol.specs.declared.Answered.{Answered}
use Rattle.protocol.specs.declared.Called as R
use Rattle.protocol.specs.declared.Refusal.{Refusal}
use Rattle.protocol.specs.Coding.{Answer, refused}
use Rattle.protocol.specs.ConnectionTable.{fresh}
use Rattle.protocol.specs.Request.{told_outcome, told_requested, request_of}
use Rattle.protocol.specs.Tick.{told_ticked, told_ticked_row, tick_of}
use Rattle.protocol.specs.DeadlineQuery.{told_next_action, query_of}
use Rattle.lent.specs.Lent as L
use Rattle.lent.proofs.OtherLength.{request_refused, tick_refused, query_refused}
use Rattle.script.specs.declared.Lent.{Lent}
use Rattle.items.specs.Items.{client_in, clock_in, request_in}
use Rattle.script.specs.Outcomes.{Said, request, tick, query}
use Rattle.script.specs.Playing.{Did, left, calls, lent_table, table_left, left_by, request_on, tick_on, query_on}
use Rattle.script.proofs.Buffers.{drop_clamped}

-- a front laid back is the whole
back : (n : ℕ) (t u : List Connection) → take (length t) (take n (t ++ u) ++ drop n t) ≡ t
back zero t u = take-length t
back (suc n) [] u = refl
back (suc n) (x ∷ t) u = ap (λ (r : List Connection). x ∷ r) (back n t u)

module _ (l : Lent) (eight : length l.table ≡ 8) where
  -- all eight records
  pub table_whole : l.records ≡ 8 → lent_table l ≡ l.table
  unfolding lent_table
  table_whole e = rw e (take_at l.table (fresh 0 ∷ []) 8 eight)

  pub left_whole : l.records ≡ 8 → (t : List Connection) → length t ≡ 8 → table_left l t ≡ t
  unfolding table_left
  left_whole e t h = rw e (take_at t (drop 8 l.table) 8 h)

  -- another number of records
  pub other_length : (l.records ≡ 8 → ⊥) → eqb (length (lent_table l)) 8 ≡ false
  unfolding lent_table
  other_length ne =
      ne_eqb _ _ (λ e. ne (omega (arith, eight, sym (length-take l.records (l.table ++ (fresh 0 ∷ []))) ∙ e, length-append l.table (fresh 0 ∷ []))))

  pub table_back : table_left l (lent_table l) ≡ l.table
  unfolding table_left lent_table
  table_back = rw eight at (back l.records l.table (fresh 0 ∷ []))

  -- a call that is refused with 1, and leaves all
  refused_through : {A : Type 0} (f : Answer A → Said) (area image answer : List ℕ) → left (calls (f (refused 1)) l l.table) area image answer ≡ left_by f l area image answer (L.called (refused 1) (take l.answer answer) (lent_table l) (take l.area area) (take l.image image))
  refused_through f area image answer =
      rw (table_back, take-append-drop l.area area, take-append-drop l.image image, take-append-drop l.answer answer)

  module _ (ne : l.records ≡ 8 → ⊥) (item area image answer : List ℕ) (r : Did) where
    said_as : (s : Said) → r ≡ calls s l l.table → left r area image answer ≡ left (calls s l l.table) area image answer
    said_as s er = ap (λ (x : Did). left x area image answer) er

    pub request_other : r ≡ calls (request (refused 1)) l l.table → left r area image answer ≡ request_on item l area image answer
    unfolding request_on
    request_other er = said_as _ er ∙ refused_through request area image answer ∙ ap (left_by request l area image answer) (request_refused _ _ _ _ _ (lent_table l) _ (other_length ne))

    pub tick_other : r ≡ calls (tick (refused 1)) l l.table → left r area image answer ≡ tick_on item l area image answer
    unfolding tick_on
    tick_other er = said_as _ er ∙ refused_through tick area image answer ∙ ap (left_by tick l area image answer) (tick_refused _ _ _ (lent_table l) _ (other_length ne))

    pub query_other : r ≡ calls (query (refused 1)) l l.table → r ≡ query_on l
    unfolding query_on
    query_other er = er ∙ ap (λ (u : Said). calls u l l.table) (ap query (query_refused (lent_table l) (other_length ne)))

  -- a call that the server answers: a, b and c are what is lent of each buffer, cut to the buffer's length
  module _ (e8 : l.records ≡ 8) (item area image answer : List ℕ) (c : ℕ) (ec : c ≡ min l.answer (length answer)) (clock : ℕ) (et : clock ≡ clock_in item) (t : Said) (table : List Connection) (len : length table ≡ 8) (r : Did) (er : r ≡ calls t l table) where
    front : (n m : ℕ) (xs ys : List ℕ) → m ≡ min n (length xs) → ys ++ drop m xs ≡ ys ++ drop n xs
    front n m xs ys e = rw (e, drop_clamped n xs)

    pub request_through_lem : (a b : ℕ) → a ≡ min l.area (length area) → b ≡ min l.image (length image) → (k : SdoClientInfo) → k ≡ client_in item → (sent : List ℕ) → sent ≡ request_in item → (done : R.Called Answered) (area' image' answer' : List ℕ) → told_requested done answer' area' image' ≡ request_of k clock sent (take b image) (take c answer) l.table (take a area) → t ≡ request (told_outcome done.outcome) → done.table ≡ table → left r (area' ++ drop a area) (image' ++ drop b image) (answer' ++ drop c answer) ≡ request_on item l area image answer
    unfolding request_on
    request_through_lem a b ea eb k ek sent eq done area' image' answer' e es ed =
        let f : request_of k clock sent (take b image) (take c answer) l.table (take a area) ≡ request_of (client_in item) (clock_in item) (request_in item) (take l.image image) (take l.answer answer) (lent_table l) (take l.area area) = rw (ek, et, eq, ea, eb, ec, take_clamped l.area area, take_clamped l.image image, take_clamped l.answer answer, table_whole e8) in
        let g : left r (area' ++ drop a area) (image' ++ drop b image) (answer' ++ drop c answer) ≡ left_by request l area image answer (told_requested done answer' area' image') = rw (er, es, ed, left_whole e8 table len, front l.area a area area' ea, front l.image b image image' eb, front l.answer c answer answer' ec) in
        g ∙ ap (left_by request l area image answer) (e ∙ f)

    pub tick_through_lem : (area1 image1 : List ℕ) → area1 ≡ take l.area area → image1 ≡ take l.image image → (done : R.Called (Option Answered)) (answer' : List ℕ) → told_ticked_row done answer' area1 image1 ≡ tick_of clock image1 (take c answer) l.table area1 → t ≡ tick (told_ticked done.outcome) → done.table ≡ table → left r area image (answer' ++ drop c answer) ≡ tick_on item l area image answer
    unfolding tick_on
    tick_through_lem area1 image1 ea eb done answer' e es ed =
        let f : tick_of clock image1 (take c answer) l.table area1 ≡ tick_of (clock_in item) (take l.image image) (take l.answer answer) (lent_table l) (take l.area area) = rw (et, ea, eb, ec, take_clamped l.answer answer, table_whole e8) in
        let g : left r area image (answer' ++ drop c answer) ≡ left_by tick l area image answer (told_ticked_row done answer' area1 image1) = rw (er, es, ed, left_whole e8 table len, ea, eb, take-append-drop l.area area, take-append-drop l.image image, front l.answer c answer answer' ec) in
        g ∙ ap (left_by tick l area image answer) (e ∙ f)

  pub query_through : l.records ≡ 8 → (r : Did) (o : Result (Option ℕ) Refusal) → told_next_action o ≡ query_of l.table → r ≡ calls (query (told_next_action o)) l l.table → r ≡ query_on l
  unfolding query_on
  query_through e8 r o e er = er ∙ ap (λ (u : Said). calls u l l.table) (ap query (e ∙ ap query_of (sym (table_whole e8))))
