use Rattle.std.proofs.Common.{◌≡◌, length, Some, true, false, refl, sym}
use Rattle.std.specs.List.{slice_get}
use Rattle.std.proofs.lemmas.Bool.{ltb-true}
use Rattle.std.proofs.lemmas.Option.{slice_get_read}
use Rattle.cell_machine.proofs.Stepped.{Promise, found, ready_here, promised}
use Rattle.cell_machine.specs.Ready.{machine_of}
use Rattle.cell_machine.proofs.state.CellState.step.Goals as goal
use Rattle.cell_machine.proofs.state.CellState.step.Goals.{After-act-arg-in-Some-2-1, After-act, In-None}

pub act-requires-clause-ready : goal.act-requires-clause-ready
act-requires-clause-ready g c =
    let r = c.self.inside.registers in
    let code = c.args.image.now.code in
    let there : slice_get code r.at ≡ Some c.in-Some.instr.now =
    slice_get_read code (length code) r.at c.in-Some.instr.now refl (ltb-true _ _ (sym c.in-Some.ensures.0)) c.in-Some.ensures.1 in
    ready_here c.args.image.now r c.self.inside.places c.self.inside.room c.in-Some.instr.now there c.args.self.now c.self.view_is c.requires
    c.self.invariant.0 c.self.invariant.1

whole : (g : _) (c : After-act g) → Promise g.P.Port.room g.P.Port.first g.P.Port.wrote g.P.Port.gave c.args.image.now c.args.self.now (machine_of c.act.new.self c.self.inside.places c.self.inside.room) c.args.port.now c.act.new.port c.act.result
whole g c =
    let r = c.self.inside.registers in
    let code = c.args.image.now.code in
    let there : slice_get code r.at ≡ Some c.in-Some.instr.now =
    slice_get_read code (length code) r.at c.in-Some.instr.now refl (ltb-true _ _ (sym c.in-Some.ensures.0)) c.in-Some.ensures.1 in
    promised c.args.image.now r c.self.inside.places c.self.inside.room c.in-Some.instr.now there g.P.Port.room g.P.Port.first g.P.Port.wrote
    g.P.Port.gave c.act.new.self c.args.port.now c.act.new.port c.act.result c.act.ensures.row c.act.ensures.keeps c.args.self.now c.self.view_is
    c.requires

pub returns-in-Some-clause-reached : goal.returns-in-Some-clause-reached
returns-in-Some-clause-reached g c = (whole g c).reached

pub returns-in-Some-clause-row : goal.returns-in-Some-clause-row
returns-in-Some-clause-row g c = (whole g c).row

pub returns-in-Some-clause-waits_write : goal.returns-in-Some-clause-waits_write
returns-in-Some-clause-waits_write g c = (whole g c).waits_write

pub returns-in-Some-clause-waits_read : goal.returns-in-Some-clause-waits_read
returns-in-Some-clause-waits_read g c = (whole g c).waits_read

pub returns-in-Some-clause-halted : goal.returns-in-Some-clause-halted
returns-in-Some-clause-halted g c = (whole g c).halted

pub returns-in-Some-clause-refused : goal.returns-in-Some-clause-refused
returns-in-Some-clause-refused g c = (whole g c).refused

-- there is an instruction at each address that is reached
never : (g : _) (c : In-None g) → ⊥
never g c =
    let h = found c.args.image.now c.args.self.now c.self.inside.registers c.self.inside.places c.self.inside.room c.self.view_is c.requires in
    let some : false ≡ true = c.in-None.ensures.2 h in
    absurd (cc)

pub returns-in-None-clause-row : goal.returns-in-None-clause-row
returns-in-None-clause-row g c = absurd (never g c)

pub returns-in-None-clause-waits_write : goal.returns-in-None-clause-waits_write
returns-in-None-clause-waits_write g c = absurd (never g c)

pub returns-in-None-clause-waits_read : goal.returns-in-None-clause-waits_read
returns-in-None-clause-waits_read g c = absurd (never g c)

pub returns-in-None-clause-halted : goal.returns-in-None-clause-halted
returns-in-None-clause-halted g c = absurd (never g c)
