use Rattle.rfb_server.proofs.server.Server.feed.Goals as goal

pub returns-in-Ok-clause-fed : goal.returns-in-Ok-clause-fed
returns-in-Ok-clause-fed c = λ serving. c.in-Ok.ensures.fed serving c.args.self.now.screen

pub returns-in-Err-clause-fault : goal.returns-in-Err-clause-fault
returns-in-Err-clause-fault c = λ other serving. c.in-Err.ensures.fault other serving c.args.self.now.screen

pub returns-in-Err-clause-memory : goal.returns-in-Err-clause-memory
returns-in-Err-clause-memory c = λ memory serving. c.in-Err.ensures.memory memory serving c.args.self.now.screen

pub returns-in-Err-clause-kept : goal.returns-in-Err-clause-kept
returns-in-Err-clause-kept c = λ serving. c.in-Err.ensures.kept serving c.args.self.now.screen

pub returns-in-Err-clause-place : goal.returns-in-Err-clause-place
returns-in-Err-clause-place c = λ none.
    let placed = c.in-Err.ensures.place none in
    record {
      last = c.in-Err.flaw.used;
      placed = record {
        some = placed.some;
        within = placed.within;
        refused = λ other serving. let r = placed.refused other serving c.args.self.now.screen in
            record { refused = r.refused; taken = r.taken };
        starved = λ is serving. let r = placed.starved is serving c.args.self.now.screen in
            record { asked = r.asked; taken = r.taken };
      };
      count = c.saturating_add-self-in-Err.ensures;
    }
