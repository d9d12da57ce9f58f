use Rattle.std.proofs.Common.{refl}
use Rattle.stack_code.specs.Instructions.{operates}
use Rattle.kumir_tree.specs.declared.kind.Op.TheVariants as op
use Rattle.machine_steps.proofs.QuickSteps.{so_goes, so_stays, so_leads}
use Rattle.machine_steps.proofs.quick.quick.Goals as goal

pub returns-in-Push-clause-goes : goal.returns-in-Push-clause-goes
returns-in-Push-clause-goes c = so_stays c.args.what.now _ c.push.result c.args.running.now c.push.new.running c.args.pc c.in-Push.is c.push.ensures.goes

pub returns-in-Load-clause-goes : goal.returns-in-Load-clause-goes
returns-in-Load-clause-goes c = so_stays c.args.what.now _ c.load.result c.args.running.now c.load.new.running c.args.pc c.in-Load.is c.load.ensures.goes

pub returns-in-Store-clause-goes : goal.returns-in-Store-clause-goes
returns-in-Store-clause-goes c = so_goes c.args.what.now _ _ _ c.in-Store.is c.store.ensures.goes

pub returns-in-Next-clause-goes : goal.returns-in-Next-clause-goes
returns-in-Next-clause-goes c = so_goes c.args.what.now _ _ _ c.in-Next.is c.next_turn.ensures.goes

pub returns-in-JumpNo-clause-goes : goal.returns-in-JumpNo-clause-goes
returns-in-JumpNo-clause-goes c = so_goes c.args.what.now _ _ _ c.in-JumpNo.is c.jump_on_no.ensures.goes

pub returns-in-Add-clause-goes : goal.returns-in-Add-clause-goes
returns-in-Add-clause-goes c = so_leads (operates op.Plus) c.args.what.now _ c.operate.result c.args.running.now c.operate.new.running c.args.pc c.in-Add.is (λ units line s. refl) c.operate.ensures.goes

pub returns-in-Sub-clause-goes : goal.returns-in-Sub-clause-goes
returns-in-Sub-clause-goes c = so_leads (operates op.Minus) c.args.what.now _ c.operate-in-Sub.result c.args.running.now c.operate-in-Sub.new.running c.args.pc c.in-Sub.is (λ units line s. refl) c.operate-in-Sub.ensures.goes

pub returns-in-Mul-clause-goes : goal.returns-in-Mul-clause-goes
returns-in-Mul-clause-goes c = so_leads (operates op.Times) c.args.what.now _ c.operate-in-Mul.result c.args.running.now c.operate-in-Mul.new.running c.args.pc c.in-Mul.is (λ units line s. refl) c.operate-in-Mul.ensures.goes

pub returns-in-Eq-clause-goes : goal.returns-in-Eq-clause-goes
returns-in-Eq-clause-goes c = so_leads (operates op.Equal) c.args.what.now _ c.operate-in-Eq.result c.args.running.now c.operate-in-Eq.new.running c.args.pc c.in-Eq.is (λ units line s. refl) c.operate-in-Eq.ensures.goes

pub returns-in-Ne-clause-goes : goal.returns-in-Ne-clause-goes
returns-in-Ne-clause-goes c = so_leads (operates op.NotEqual) c.args.what.now _ c.operate-in-Ne.result c.args.running.now c.operate-in-Ne.new.running c.args.pc c.in-Ne.is (λ units line s. refl) c.operate-in-Ne.ensures.goes

pub returns-in-Lt-clause-goes : goal.returns-in-Lt-clause-goes
returns-in-Lt-clause-goes c = so_leads (operates op.Less) c.args.what.now _ c.operate-in-Lt.result c.args.running.now c.operate-in-Lt.new.running c.args.pc c.in-Lt.is (λ units line s. refl) c.operate-in-Lt.ensures.goes

pub returns-in-Le-clause-goes : goal.returns-in-Le-clause-goes
returns-in-Le-clause-goes c = so_leads (operates op.LessOrEqual) c.args.what.now _ c.operate-in-Le.result c.args.running.now c.operate-in-Le.new.running c.args.pc c.in-Le.is (λ units line s. refl) c.operate-in-Le.ensures.goes

pub returns-in-Gt-clause-goes : goal.returns-in-Gt-clause-goes
returns-in-Gt-clause-goes c = so_leads (operates op.Greater) c.args.what.now _ c.operate-in-Gt.result c.args.running.now c.operate-in-Gt.new.running c.args.pc c.in-Gt.is (λ units line s. refl) c.operate-in-Gt.ensures.goes

pub returns-in-Ge-clause-goes : goal.returns-in-Ge-clause-goes
returns-in-Ge-clause-goes c = so_leads (operates op.GreaterOrEqual) c.args.what.now _ c.operate-in-Ge.result c.args.running.now c.operate-in-Ge.new.running c.args.pc c.in-Ge.is (λ units line s. refl) c.operate-in-Ge.ensures.goes

pub returns-in-Elem-clause-goes : goal.returns-in-Elem-clause-goes
returns-in-Elem-clause-goes c = so_stays c.args.what.now _ c.take_element.result c.args.running.now c.take_element.new.running c.args.pc c.in-Elem.is c.take_element.ensures.goes

pub returns-in-PutElem-clause-goes : goal.returns-in-PutElem-clause-goes
returns-in-PutElem-clause-goes c = so_stays c.args.what.now _ c.put_element.result c.args.running.now c.put_element.new.running c.args.pc c.in-PutElem.is c.put_element.ensures.goes
