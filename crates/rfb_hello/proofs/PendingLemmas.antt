-- What an end keeps of a piece that is not whole is what is pending.
use Rattle.std.proofs.Common.{◌≡◌, ◌≢◌, ℕ, suc, ◌+◌, ◌<◌, List, [], ◌∷◌, ◌++◌, length, refl, sym, ◌∙◌, ap, arith}
use Rattle.rfb_wire.specs.stream.PendingBytes.{in_pieces}
use Rattle.rfb_wire.proofs.stream_laws.PendingLaws.{counted_pending, bytes_pending, piece_pending, past_piece}
use Rattle.rfb_hello.specs.declared.version.Version.{Version}
use Rattle.rfb_hello.specs.declared.version.Version.TheVariants.{V33, V37, V38}
use Rattle.rfb_hello.specs.declared.server_hello.progress.Progress.{Progress as ServerProgress}
use Rattle.rfb_hello.specs.declared.server_hello.progress.Progress.TheVariants.{Version as ClientVersionPart, Choice}
use Rattle.rfb_hello.specs.declared.server_hello.progress.Progress.TheVariants.{Init as ClientInitPart}
use Rattle.rfb_hello.specs.declared.server_hello.progress.Progress.TheVariants.{Done as ServerDone}
use Rattle.rfb_hello.specs.declared.server_hello.progress.Progress.TheVariants.{Failed as ServerFailed}
use Rattle.rfb_hello.specs.declared.viewer_hello.progress.Cause.{Cause}
use Rattle.rfb_hello.specs.declared.viewer_hello.progress.Cause.TheVariants.{Refused, SecurityFailed}
use Rattle.rfb_hello.specs.declared.viewer_hello.progress.Progress.{Progress}
use Rattle.rfb_hello.specs.declared.viewer_hello.progress.Progress.TheVariants.{Version as VersionPart, Word, Count}
use Rattle.rfb_hello.specs.declared.viewer_hello.progress.Progress.TheVariants.{Types, Result as ResultPart}
use Rattle.rfb_hello.specs.declared.viewer_hello.progress.Progress.TheVariants.{ReasonLength, Reason, Init, Name, Done}
use Rattle.rfb_hello.specs.declared.viewer_hello.progress.Progress.TheVariants.{Failed}
use Rattle.rfb_hello.specs.ClientHandshake.{ClientPoint}
use Rattle.rfb_hello.specs.ServerHandshake.{ServerPoint, AwaitsSecurity, AwaitsResult}
use Rattle.rfb_hello.specs.ServerProgress.{ProgressStandsFor as ServerProgressStandsFor}
use Rattle.rfb_hello.specs.pieces.ServerPiece.{part_in as server_part_in}
use Rattle.rfb_hello.specs.ViewerEnd.{OpensReason}
use Rattle.rfb_hello.specs.ViewerProgress.{ProgressStandsFor}
use Rattle.rfb_hello.specs.pieces.ViewerPiece.{part_in}
use Rattle.rfb_hello.specs.PendingBytes.{client_handshake_pending, server_handshake_pending, reason_pending}
use Rattle.rfb_hello.specs.PendingBytes.{security_pending, types_pending}

-- a part of a piece
part_pending : (size : ℕ) (part : List ℕ) → length part < size → in_pieces size part ≡ length part
part_pending size part less = counted_pending size 0 [] part (omega arith) less

pub server_pending_is : (p : ServerProgress) (point : ClientPoint) (prefix : List ℕ) →
    ServerProgressStandsFor p point prefix → server_part_in p ≡ client_handshake_pending point prefix
server_pending_is (ClientVersionPart text) point prefix h = rw (h.0, h.1) (sym (part_pending 12 text.items h.2))
server_pending_is (Choice v) point prefix h = rw (h.0, h.1) refl
server_pending_is (ClientInitPart v) point prefix h = rw (h.0, h.1) refl
server_pending_is (ServerDone v shared) point prefix h = rw h.0 refl
server_pending_is (ServerFailed fault) point prefix h = absurd h

-- after the bytes that come before a reason
opened_pending : (cause : Cause) (point : ServerPoint) (intro tail : List ℕ) → OpensReason cause point intro →
    server_handshake_pending point (intro ++ tail) ≡ reason_pending tail
opened_pending Refused (AwaitsSecurity V33) intro tail h = past_piece 4 reason_pending intro tail h.0
opened_pending Refused (AwaitsSecurity V37) intro tail h = ap (λ (ys : List ℕ). types_pending (ys ++ tail)) h
opened_pending Refused (AwaitsSecurity V38) intro tail h = ap (λ (ys : List ℕ). types_pending (ys ++ tail)) h
opened_pending SecurityFailed (AwaitsResult v) intro tail h = past_piece 4 reason_pending intro tail h.2.0
opened_pending cause point intro tail h = absurd h

-- before the count of the types, and after it
count_pending : (v : Version) → v ≢ V33 → security_pending v [] ≡ 0
count_pending V33 not = absurd (not refl)
count_pending V37 not = refl
count_pending V38 not = refl

listed_pending : (v : Version) (n : ℕ) (seen : List ℕ) → v ≢ V33 → security_pending v (suc n ∷ seen) ≡ 0
listed_pending V33 n seen not = absurd (not refl)
listed_pending V37 n seen not = bytes_pending seen
listed_pending V38 n seen not = bytes_pending seen

pub viewer_pending_is : (limit : ℕ) (p : Progress) (point : ServerPoint) (prefix : List ℕ) →
    ProgressStandsFor limit p point prefix → part_in p ≡ server_handshake_pending point prefix
viewer_pending_is limit (VersionPart part) point prefix h = rw (h.0, h.1) (sym (part_pending 12 part.items h.2))
viewer_pending_is limit (Word part) point prefix h = rw (h.0, h.1) (sym (piece_pending 4 reason_pending part.items h.2))
viewer_pending_is limit (Count v) point prefix h = rw (h.0, h.2) (sym (count_pending v h.1))
viewer_pending_is limit (Types v list) point prefix h =
    let seen = list.types in
    let count : length seen + (list.more + 1) ≡ suc (length seen + list.more) = omega arith in
    rw (h.0, h.2, count) (sym (listed_pending v (length seen + list.more) seen h.1))
viewer_pending_is limit (ResultPart v part) point prefix h =
    rw (h.0, h.1) (sym (piece_pending 4 reason_pending part.items h.2))
viewer_pending_is limit (ReasonLength cause part) point prefix h =
    sym (ap (server_handshake_pending point) h.2 ∙ opened_pending cause point h.0 part.items h.1
    ∙ piece_pending 4 (in_pieces 1) part.items h.3)
viewer_pending_is limit (Reason cause n more kept) point prefix h =
    sym (ap (server_handshake_pending point) h.4 ∙ opened_pending cause point h.0 (h.1 ++ h.2) h.3
    ∙ past_piece 4 (in_pieces 1) h.1 h.2 h.5.0 ∙ bytes_pending h.2)
viewer_pending_is limit (Init v part) point prefix h = rw (h.0, h.1) (sym (part_pending 24 part.items h.2))
viewer_pending_is limit (Name v width height n more kept) point prefix h = rw h.0 (sym (bytes_pending prefix))
viewer_pending_is limit Done point prefix h = rw h.3 refl
viewer_pending_is limit (Failed fault kept) point prefix h = absurd h
