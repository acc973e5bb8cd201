-- One block more is cut from whole lines.
use Rattle.std.proofs.Common.{◌≡◌, ℕ, ◌-◌, true, List, [], ◌∷◌, ◌++◌, length, arith, sym, ap, ◌∙◌, append_assoc, append-nil, length-append}
use Rattle.line_blocks.specs.Blocks.{has_whole_lines, joined}
use Rattle.line_blocks.specs.Values.{AreBlocks, bytes_in}
use Rattle.line_blocks.specs.declared.blocks.Block.{Block}
use Rattle.line_blocks.proofs.Endings.{whole_behind}

joined_more : (bs : List Block) (b : Block) → joined (bytes_in (bs ++ b ∷ [])) ≡ joined (bytes_in bs) ++ b.bytes.now
joined_more [] b = append-nil b.bytes.now
joined_more (c ∷ bs) b =
    ap (λ (l : List ℕ). c.bytes.now ++ l) (joined_more bs b)
    ∙ sym (append_assoc c.bytes.now (joined (bytes_in bs)) b.bytes.now)

blocks_more : (room : ℕ) (bs : List Block) (b : Block) → AreBlocks room bs
    → b.room ≡ room - length (joined (bytes_in bs)) → has_whole_lines b.bytes.now ≡ true → AreBlocks room (bs ++ b ∷ [])
blocks_more room [] b h is whole = (omega (arith, is), whole, tt)
blocks_more room (c ∷ bs) b h is whole = (
  h.0,
  h.1,
  blocks_more (room - length c.bytes.now) bs b h.2
      (omega (arith, is, length-append c.bytes.now (joined (bytes_in bs)))) whole,
)

pub one_more : (room : ℕ) (lines rest : List ℕ) (left after : ℕ) (bs : List Block) (b : Block) (behind : List ℕ)
    → joined (bytes_in bs) ++ rest ≡ lines → AreBlocks room bs → left ≡ room - length (joined (bytes_in bs))
    → has_whole_lines rest ≡ true
    → rest ≡ b.bytes.now ++ behind → has_whole_lines b.bytes.now ≡ true → b.room ≡ left
    → after ≡ left - length b.bytes.now
    → (joined (bytes_in (bs ++ b ∷ [])) ++ behind ≡ lines) × AreBlocks room (bs ++ b ∷ [])
    × (after ≡ room - length (joined (bytes_in (bs ++ b ∷ [])))) × (has_whole_lines behind ≡ true)
one_more room lines rest left after bs b behind all blocks roomed whole both here is less =
    let more = joined_more bs b in (
      ap (λ (l : List ℕ). l ++ behind) more ∙ append_assoc (joined (bytes_in bs)) b.bytes.now behind
          ∙ ap (λ (l : List ℕ). joined (bytes_in bs) ++ l) (sym both) ∙ all,
      blocks_more room bs b blocks (omega (arith, is, roomed)) here,
      omega (arith, less, roomed, ap length more, length-append (joined (bytes_in bs)) b.bytes.now),
      whole_behind b.bytes.now behind (ap has_whole_lines (sym both) ∙ whole) here,
    )
