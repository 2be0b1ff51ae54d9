-- A hub with the slots that it had is the hub that it was.
use Rattle.std.proofs.Common.{◌≡◌, ◌≤◌, List, length, Option, ap, ◌∙◌, subst}
use Rattle.std.proofs.Props.{props}
use Rattle.rfb_session.specs.declared.hub.Hub.{Hub}
use Rattle.rfb_session.specs.declared.hub.seat.HubSeat.{HubSeat}
use Rattle.rfb_session.proofs.HubDrawLemmas.{EachFollows}

same_facts : (old : Hub) (eight : length old.slots ≡ 8) (columns : old.screen.width ≤ 4096)
    (rows : old.screen.height ≤ 4096) (follow : EachFollows old.screen old.slots) →
    record old { eight = eight; columns = columns; rows = rows; follow = follow } ≡ old
same_facts old eight columns rows follow =
    let one : IsProp (length old.slots ≡ 8) = hlevel props in
    let two : IsProp (old.screen.width ≤ 4096) = hlevel props in
    let three : IsProp (old.screen.height ≤ 4096) = hlevel props in
    let four : IsProp (EachFollows old.screen old.slots) = hlevel props in
    ap (λ (x : length old.slots ≡ 8). record old { eight = x; columns = columns; rows = rows; follow = follow })
    (one eight old.eight)
    ∙ (ap (λ (x : old.screen.width ≤ 4096). record old { columns = x; rows = rows; follow = follow })
    (two columns old.columns)
    ∙ (ap (λ (x : old.screen.height ≤ 4096). record old { rows = x; follow = follow }) (three rows old.rows)
    ∙ ap (λ (x : EachFollows old.screen old.slots). record old { follow = x }) (four follow old.follow)))

pub hub_back : (old : Hub) (slots : List (Option HubSeat)) → old.slots ≡ slots →
    (eight : length slots ≡ 8) (columns : old.screen.width ≤ 4096)
    (rows : old.screen.height ≤ 4096) (follow : EachFollows old.screen slots) →
    record old { slots = slots; eight = eight; columns = columns; rows = rows; follow = follow } ≡ old
hub_back old slots same =
    subst (λ (xs : List (Option HubSeat)). (eight : length xs ≡ 8) (columns : old.screen.width ≤ 4096)
    (rows : old.screen.height ≤ 4096) (follow : EachFollows old.screen xs) →
    record old { slots = xs; eight = eight; columns = columns; rows = rows; follow = follow } ≡ old)
    same (same_facts old)
