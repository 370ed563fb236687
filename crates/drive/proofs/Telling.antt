-- What a turn tells of the phase behind it.
use Rattle.std.proofs.Common.{◌≡◌, ℕ, List, refl, sym, subst}
use Rattle.sp_base.specs.declared.numbers.TableId.{TableId}
use Rattle.task.specs.declared.phase.Phase.{Phase}
use Rattle.task.specs.declared.phase.Phase.TheVariants as phase
use Rattle.task.specs.declared.turned.Turned.TheVariants as told
use Rattle.task.specs.Tasks.{GoesOn as On, told_of}

pub ran-ready : (stands : Phase) → told.Ran ≡ told_of stands → stands ≡ phase.Ready
ran-ready phase.Ready e = refl
ran-ready (phase.Waiting table key) e = (cc)
ran-ready (phase.Ended outcome writes) e = (cc)

pub wants-waits : (stands : Phase) (table : TableId) (key : List ℕ) → told.Wants table key ≡ told_of stands → stands ≡ phase.Waiting table key
wants-waits phase.Ready table key e = (cc)
wants-waits (phase.Waiting other another) table key e = (cc)
wants-waits (phase.Ended outcome writes) table key e = (cc)

pub ready-on : (stands : Phase) → stands ≡ phase.Ready → On stands
ready-on stands is = subst (λ (p : Phase). On p) (sym is) tt

pub waiting-on : (stands : Phase) (table : TableId) (key : List ℕ) → stands ≡ phase.Waiting table key → On stands
waiting-on stands table key is = subst (λ (p : Phase). On p) (sym is) tt
