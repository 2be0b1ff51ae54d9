use Rattle.rfb_session.proofs.DriverLemmas.{begins_sent}
use Rattle.rfb_session.proofs.drive.driver.Driver.begin.Goals as goal

pub returns-in-Save : goal.returns-in-Save
returns-in-Save g c = rw c.in-Save.is c.save.ensures

pub returns-in-PasteFile : goal.returns-in-PasteFile
returns-in-PasteFile g c = rw c.in-PasteFile.is c.paste_file.ensures

pub returns-in-UntilChange : goal.returns-in-UntilChange
returns-in-UntilChange g c = rw c.in-UntilChange.is c.await_change.ensures

pub returns-in_default : goal.returns-in_default
returns-in_default g c =
    let d = c.in_default in
    begins_sent g.R.Rig.steps c.args.now c.args.said.now c.args.self.now c.send_line.new.self d.not-PasteFile
    d.not-Save d.not-Expect d.not-Still d.not-Wait d.not-UntilChange d.not-Timeout c.send_line.ensures
