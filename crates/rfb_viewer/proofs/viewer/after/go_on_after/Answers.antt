use Rattle.rfb_viewer.proofs.viewer.after.go_on_after.Goals as goal

pub returns-in-ColourMap-clause-progress : goal.returns-in-ColourMap-clause-progress
returns-in-ColourMap-clause-progress c =
    rw (c.in-ColourMap.is) (c.go_on_to_colours.ensures.progress c.args.text_limit c.in-ColourMap.first)

pub returns-in-ColourMap-clause-told : goal.returns-in-ColourMap-clause-told
returns-in-ColourMap-clause-told c = rw (c.in-ColourMap.is) (c.go_on_to_colours.ensures.told c.in-ColourMap.first)
