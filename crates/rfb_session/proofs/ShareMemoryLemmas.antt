-- The memory that is taken for what waits at a share's seat.
use Rattle.std.proofs.Common.{◌≡◌, ◌≤◌, ℕ, ◌+◌, ◌<◌, List, length, length-drop, drop, sym, ap, ◌∙◌, arith}
use Rattle.std.proofs.lemmas.List.{drop-drop}
use Rattle.rfb_session.specs.declared.share.seat.ShareSeat.{ShareSeat}
use Rattle.rfb_session.specs.ShareRoom.{kept_in, memory_of}
use Rattle.rfb_session.specs.ShareSeats.{WritesAt}

-- some of those that wait are written, and not the last
pub writes_some : (count : ℕ) (old new : ShareSeat) →
    drop new.written (kept_in new.waiting) ≡ drop (old.written + count) (kept_in old.waiting) →
    memory_of new.waiting ≤ memory_of old.waiting → new.session ≡ old.session →
    old.written + count < length (kept_in old.waiting) → WritesAt count old new
writes_some count old new rest memory same_session less =
    record {
      waits = rest ∙ sym (drop-drop count old.written (kept_in old.waiting));
      memory = memory;
      session = same_session;
      freed = λ none.
          let long = ap (λ (xs : List ℕ). length xs) (sym rest ∙ none) in
          let left = length-drop (old.written + count) (kept_in old.waiting) in
          absurd (omega (arith, long, left, less));
    }
