use Rattle.rfb_session.proofs.hub.Hub.played.Goals as goal

pub returns : goal.returns
returns c =
    let made = c.in_ok-hub.ensures in (
      c.in_ok-hub.hub,
      made.empty,
      made.screen,
      made.made,
      c.in_ok-run.ensures.steps,
      c.in_ok-run.ensures.headline made.stands,
    )
