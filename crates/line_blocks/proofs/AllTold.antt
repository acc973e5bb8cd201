-- What several threads told, block after block.
use Rattle.std.proofs.Common.{◌≡◌, ℕ, ◌+◌, ◌-◌, ◌≤◌, inl, inr, List, [], ◌∷◌, ◌++◌, length, drop, Result, Ok, Err, map, arith, refl, sym, ap, subst, ◌∙◌}
use Rattle.std.specs.Prelude.{slice_range}
use Rattle.std.proofs.lemmas.List.{drop-drop, take-append-drop}
use Rattle.std.specs.declared.alloc.AllocError.{AllocError}
use Rattle.refusals.specs.Refusals.{◌>>=◌}
use Rattle.json_lines.specs.declared.reading.LineFault.{LineFault}
use Rattle.line_blocks.specs.Blocks.{lines_in, lines_of}
use Rattle.line_blocks.specs.Parts.{PartTold, put_part, put_parts}
use Rattle.line_blocks.specs.Values.{AreTold, PutsAs, PutsTold, block_told, bytes_in, told_value}
use Rattle.line_blocks.specs.declared.blocks.Block.{Block}
use Rattle.line_blocks.specs.declared.telling.Told.{Told}
use Rattle.line_blocks.proofs.Parts.{bind_err, bind_ok, put_ok, told_counts}

-- what is known before a block is put in
pub record Left {S V C : Type 0} (told : List ℕ → Result V C) (put : ℕ → S → V → Result S C)
    (goal : Result S (LineFault C)) (last : ℕ) (rs : List (Result (Told V C) AllocError)) (n : ℕ) (s : S) : Type 0 where
  pub rest : List Block
  pub are : AreTold told rs rest
  pub all : goal ≡ put_parts put n s (map (block_told told) rest)
  pub lines : n + lines_in (bytes_in rest) ≡ last

-- the block that was told first, and those behind it
first_told : {V C : Type 0} (told : List ℕ → Result V C) (t : Told V C) (r : Result (Told V C) AllocError)
    (behind : List (Result (Told V C) AllocError)) (rest : List Block) → r ≡ Ok t → AreTold told (r ∷ behind) rest
    → (b : Block) × (bs : List Block) × (rest ≡ b ∷ bs) × (told_value t ≡ block_told told b) × AreTold told behind bs
first_told told t r behind [] is are = absurd are
first_told told t r behind (b ∷ bs) is are = (b, bs, refl, rw is at are.0, are.1)

module _ {S V C : Type 0} {told : List ℕ → Result V C} {put : ℕ → S → V → Result S C} {goal : Result S (LineFault C)}
    {last : ℕ} {rs : List (Result (Told V C) AllocError)} {n : ℕ} {s : S} (left : Left told put goal last rs n s) where
  module _ {r : Result (Told V C) AllocError} {behind : List (Result (Told V C) AllocError)} (t : Told V C)
      (next : rs ≡ r ∷ behind) (is : r ≡ Ok t) where
    first : (b : Block) × (bs : List Block) × (left.rest ≡ b ∷ bs) × (told_value t ≡ block_told told b)
        × AreTold told behind bs
    first = first_told told t r behind left.rest is (subst (λ xs. AreTold told xs left.rest) next left.are)

    b : Block
    b = first.0

    bs : List Block
    bs = first.1

    count : n + (length (lines_of b.bytes.now) + lines_in (bytes_in bs)) ≡ last
    unfolding b bs
    count = omega (arith, left.lines, ap (λ xs. lines_in (bytes_in xs)) first.2)

    -- its part is the first to be put in
    goal_now : goal ≡ (put_part put n s (told_value t)
        >>= λ u. put_parts put (n + length t.values.items) u (map (block_told told) bs))
    unfolding b bs
    goal_now =
        left.all ∙ ap (λ (xs : List Block). put_parts put n s (map (block_told told) xs)) first.2
        ∙ ap (λ (p : PartTold V C). put_part put n s p
        >>= (λ (u : S). put_parts put (n + length p.values) u (map (block_told told) bs))) (sym first.3)

    -- it has no more values than the lines that are left
    pub few_left : n + length t.values.items ≤ last
    unfolding b bs
    few_left =
        omega (
          arith,
          (told_counts told b.room (lines_of b.bytes.now)).few,
          ap (λ (p : PartTold V C). length p.values) first.3,
          count,
        )

    -- it was put in
    pub goes_on : {now : S} (m : ℕ) → put_part put n s (told_value t) ≡ Ok now → m ≡ n + length t.values.items
        → Left told put goal last behind m now
    unfolding b bs
    goes_on {now} m put_in to =
        let none = put_ok put n s now t.values.items t.fault put_in in
        let lines : length t.values.items ≡ length (lines_of b.bytes.now) =
        ap (λ (p : PartTold V C). length p.values) first.3
        ∙ (told_counts told b.room (lines_of b.bytes.now)).all
        (ap (λ (p : PartTold V C). p.fault) (sym first.3) ∙ none) in
        record {
          rest = bs;
          are = first.4;
          all = goal_now ∙ ap (λ (x : Result S (LineFault C)). x
              >>= (λ (u : S). put_parts put (n + length t.values.items) u (map (block_told told) bs))) put_in
              ∙ ap (λ (k : ℕ). put_parts put k now (map (block_told told) bs)) (sym to);
          lines = omega (arith, to, lines, count);
        }

    -- it was refused
    pub refused : (fault : LineFault C) → put_part put n s (told_value t) ≡ Err fault → goal ≡ Err fault
    refused fault put_in =
        goal_now ∙ ap (λ (x : Result S (LineFault C)). x
        >>= (λ (u : S). put_parts put (n + length t.values.items) u (map (block_told told) bs))) put_in

  -- all were put in
  pub none_left : rs ≡ [] → (goal ≡ Ok s) × (n ≡ last)
  none_left none = at left.rest (subst (λ xs. AreTold told xs left.rest) none left.are) left.all left.lines
    where
      at : (rest : List Block) → AreTold told [] rest → goal ≡ put_parts put n s (map (block_told told) rest)
          → n + lines_in (bytes_in rest) ≡ last → (goal ≡ Ok s) × (n ≡ last)
      at [] are all lines = (all, omega (arith, lines))
      at (c ∷ cs) are all lines = absurd are

pub lines_in_both : (bs rest : List Block)
    → lines_in (bytes_in (bs ++ rest)) ≡ lines_in (bytes_in bs) + lines_in (bytes_in rest)
lines_in_both [] rest = omega arith
lines_in_both (b ∷ bs) rest = omega (arith, lines_in_both bs rest)

module _ {S V C : Type 0} (told : List ℕ → Result V C) (put : ℕ → S → V → Result S C) where
  -- blocks that were put in, and those behind them
  pub put_before : (n : ℕ) (s t : S) (bs rest : List Block) → put_parts put n s (map (block_told told) bs) ≡ Ok t
      → put_parts put n s (map (block_told told) (bs ++ rest))
      ≡ put_parts put (n + lines_in (bytes_in bs)) t (map (block_told told) rest)
  put_before n s t [] rest e =
      let same : s ≡ t = cc in
      let zero : n ≡ n + 0 = omega arith in
      ap (λ (u : S). put_parts put n u (map (block_told told) rest)) same
      ∙ ap (λ (k : ℕ). put_parts put k t (map (block_told told) rest)) zero
  put_before n s t (b ∷ bs) rest e =
      let p : PartTold V C = block_told told b in
      let k =
      bind_ok (put_part put n s p) (λ u. put_parts put (n + length p.values) u (map (block_told told) bs)) t e in
      let lines =
      (told_counts told b.room (lines_of b.bytes.now)).all (put_ok put n s k.0 p.values p.fault k.1) in
      let next : (n + length p.values) + lines_in (bytes_in bs) ≡ n + lines_in (bytes_in (b ∷ bs)) =
      omega (arith, lines) in
      ap (λ (x : Result S (LineFault C)). x
      >>= (λ (u : S). put_parts put (n + length p.values) u (map (block_told told) (bs ++ rest)))) k.1
      ∙ put_before (n + length p.values) k.0 t bs rest k.2
      ∙ ap (λ (m : ℕ). put_parts put m t (map (block_told told) rest)) next

  -- what is refused in blocks is refused with those behind them too
  pub refused_before : (n : ℕ) (s : S) (e : LineFault C) (bs rest : List Block)
      → put_parts put n s (map (block_told told) bs) ≡ Err e
      → put_parts put n s (map (block_told told) (bs ++ rest)) ≡ Err e
  refused_before n s e [] rest is = absurd cc
  refused_before n s e (b ∷ bs) rest is =
      let p : PartTold V C = block_told told b in
      let f : S → Result S (LineFault C) =
      λ u. put_parts put (n + length p.values) u (map (block_told told) (bs ++ rest)) in
      elim (bind_err (put_part put n s p) (λ u. put_parts put (n + length p.values) u (map (block_told told) bs)) e
      is) [
        | inl here ↦ ap (λ (x : Result S (LineFault C)). x >>= f) here
        | inr later ↦
            ap (λ (x : Result S (LineFault C)). x >>= f) later.1
            ∙ refused_before (n + length p.values) later.0 e bs rest later.2
      ]

-- what is known where so many blocks were told and the last of these are not yet put in
pub record Ahead {S V C : Type 0} (told : List ℕ → Result V C) (put : ℕ → S → V → Result S C)
    (goal : Result S (LineFault C)) (last : ℕ) (blocks : List Block) (count : ℕ)
    (rs : List (Result (Told V C) AllocError)) (n : ℕ) (s : S) : Type 0 where
  pub wave : List Block
  pub are : AreTold told rs wave
  pub all : goal ≡ put_parts put n s (map (block_told told) (wave ++ drop count blocks))
  pub lines : n + lines_in (bytes_in (wave ++ drop count blocks)) ≡ last

module _ {S V C : Type 0} {told : List ℕ → Result V C} {put : ℕ → S → V → Result S C} {goal : Result S (LineFault C)}
    {last : ℕ} {blocks : List Block} {count : ℕ} {rs : List (Result (Told V C) AllocError)} {n : ℕ} {s : S}
    (known : Ahead told put goal last blocks count rs n s) where
  pub wave_fits : n + lines_in (bytes_in known.wave) ≤ last
  wave_fits = omega (arith, known.lines, lines_in_both known.wave (drop count blocks))

  module _ {now : S} {r : Result ℕ (LineFault C)} (puts : PutsTold told put n s known.wave r now) where
    -- the wave was put in, up to this line
    pub reached : (m : ℕ) → r ≡ Ok m → (n ≤ m) × (m ≤ last)
    reached m is =
        let next : m ≡ n + lines_in (bytes_in known.wave) = rw is at puts.next in
        (omega (arith, next), omega (arith, next, wave_fits))

    -- and the next one told
    pub next_wave : (m to : ℕ) (next : List (Result (Told V C) AllocError)) → r ≡ Ok m → count ≤ to
        → AreTold told next (slice_range blocks count to) → Ahead told put goal last blocks to next m now
    next_wave m to next is le are =
        let wave : List Block = slice_range blocks count to in
        let all : put_parts put n s (map (block_told told) known.wave) ≡ Ok now = rw is at puts.puts in
        let behind : m ≡ n + lines_in (bytes_in known.wave) = rw is at puts.next in
        let end : count + (to - count) ≡ to = omega arith in
        let rest : drop count blocks ≡ wave ++ drop to blocks =
        sym (take-append-drop (to - count) (drop count blocks))
        ∙ ap (λ (xs : List Block). wave ++ xs) (drop-drop (to - count) count blocks)
        ∙ ap (λ (k : ℕ). wave ++ drop k blocks) end in
        record {
          wave = wave;
          are = are;
          all = known.all ∙ put_before told put n s now known.wave (drop count blocks) all
              ∙ ap (λ (k : ℕ). put_parts put k now (map (block_told told) (drop count blocks))) (sym behind)
              ∙ ap (λ (xs : List Block). put_parts put m now (map (block_told told) xs)) rest;
          lines = omega (
            arith,
            known.lines,
            lines_in_both known.wave (drop count blocks),
            behind,
            ap (λ (xs : List Block). lines_in (bytes_in xs)) rest,
          );
        }

    -- something of the wave was refused
    pub refused_wave : (fault : LineFault C) → r ≡ Err fault
        → PutsAs {T = ℕ} (Err fault) now goal × (n ≤ fault.line) × (fault.line ≤ last)
    refused_wave fault is =
        let line : (n ≤ fault.line) × (fault.line ≤ n + lines_in (bytes_in known.wave)) = rw is at puts.line in
        let said : PutsAs {T = ℕ} (Err fault) now (put_parts put n s (map (block_told told) known.wave)) =
        rw is at puts.puts in (
          elim said [
            | inl memory ↦ inl memory
            | inr all ↦ inr (known.all ∙ refused_before told put n s fault known.wave (drop count blocks) all)
          ],
          line.0,
          omega (arith, line.1, wave_fits),
        )
