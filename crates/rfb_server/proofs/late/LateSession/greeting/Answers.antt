use Rattle.rfb_server.proofs.late.LateSession.greeting.Goals as goal

pub returns-in-Within : goal.returns-in-Within
returns-in-Within c = λ serving screen s prefix stands.
    c.greeting-in-Within.ensures serving screen s prefix (rw (← c.self.view_is, c.in-Within.is) at stands)
