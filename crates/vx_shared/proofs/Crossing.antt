-- What a turn protects may cross threads.
use denote.Ref.{NamedLft}
use denote.RattleType.{RattleType}
use denote.Param.Send.{IsSend, IsSync, Frees, sendable, part_keyless}
use denote.Struct.Struct.{Struct}
use denote.Struct.Owning.{shape}
use Rattle.std.specs.declared.alloc.Allocator as alloc
use Rattle.atomic_table.specs.declared.shared.TableRule as rule
use Rattle.atomic_table.specs.contracts.shared.Shared as Shared
use Rattle.atomic_table.specs.contracts.send_lease.SendLease as SendLease
use Rattle.atomic_table.proofs.Sent.{owns_keyless, shares_keyless}
use Rattle.atomic_table.proofs.Rights.{right_send}
use Rattle.std.proofs.Crossing.{crosses}
use Rattle.vx_election_model.specs.contracts.election.Election as Election
use Rattle.vx_events.specs.contracts.event.Event as Event
use Rattle.vx_center.specs.contracts.center.Center as Center
use Rattle.vx_center.specs.contracts.entry.SheetEntry as SheetEntry
use Rattle.vx_center.specs.contracts.name.SheetName as SheetName
use Rattle.vx_shared.specs.contracts.history.Entry as Entry
use Rattle.vx_shared.specs.contracts.held.Held as Held
use Rattle.vx_shared.specs.contracts.sharing.SharedCenter as SharedCenter

Event-send : IsSend Event.the_row
Event-send = search (sendable, crosses) depth 40 fits 20000

Entry-send : IsSend Entry.the_row
Entry-send = let a : IsSend Event.the_row = Event-send in search (sendable, crosses) depth 40 fits 20000

Election-sync : IsSync Election.the_row
Election-sync = search (sendable, crosses) depth 40 fits 20000

SheetEntry-send : IsSend SheetEntry.the_row
SheetEntry-send = search (sendable, crosses) depth 40 fits 20000

SheetName-send : IsSend SheetName.the_row
SheetName-send = search (sendable, crosses) depth 40 fits 20000

CenterInside-send : (κ : NamedLft) → IsSend (Center.TheInside.the_row κ)
CenterInside-send κ =
    let a : IsSend Event.the_row = Event-send in
    let b : IsSync Election.the_row = Election-sync in
    let c : IsSend SheetEntry.the_row = SheetEntry-send in
    let d : IsSend SheetName.the_row = SheetName-send in
    search (sendable, crosses) depth 40 fits 20000

Center-send : (κ : NamedLft) → IsSend (Center.the_row κ)
Center-send κ = let a : IsSend (Center.TheInside.the_row κ) = CenterInside-send κ in search (sendable, crosses) depth 20

Inside-send : (κ : NamedLft) → IsSend (Held.TheInside.the_row κ)
Inside-send κ =
    let a : IsSend (Center.the_row κ) = Center-send κ in
    let b : IsSend Entry.the_row = Entry-send in
    search (sendable, crosses) depth 40 fits 20000

pub Held-send : (κ : NamedLft) → IsSend (Held.the_row κ)
Held-send κ = let a : IsSend (Held.TheInside.the_row κ) = Inside-send κ in search (sendable, crosses) depth 20

-- the parts of a table
shared_send : (S V K P : RattleType) (g : rule.Ghosts P.Denot S.Denot V.Denot K.Denot) → IsSend S → IsSend (Shared.the_row S V K P g)
shared_send S V K P g s = record { owned = λ d vs. ((λ vss. (tt, (tt, (tt, ((λ uss. (tt, tt)), tt))))), owns_keyless S s V.coded.code d.table_id (g.holds d.key) d.words d.slots); leaving = λ k f vs. tt }

shared_sync : (S V K P : RattleType) (g : rule.Ghosts P.Denot S.Denot V.Denot K.Denot) → IsSend S → IsSync (Shared.the_row S V K P g)
shared_sync S V K P g s = let fields : IsSync (Struct (shape (Shared.the_type S V K P g))) = search sendable depth 20 in
    record { shared = λ d b o ν. (fields.shared (d.words, (d.slots, (tt, tt))) b o ν, shares_keyless S s V.coded.code d.table_id (g.holds d.key) d.words d.slots ν) }

lease_send : (T A : RattleType) (g : alloc.Ghosts A.Denot) → IsSend A → Frees g g.dealloc_token → IsSend (SendLease.the_row T A g)
lease_send T A g s f = right_send T A g f

lease_sync : (T A : RattleType) (g : alloc.Ghosts A.Denot) → IsSend A → Frees g g.dealloc_token → IsSync (SendLease.the_row T A g)
lease_sync T A g s f = record { shared = λ d b o ν q. part_keyless (SendLease.the_row T A g) (right_send T A g f) q d b o }

pub Center-shared-send : (κ : NamedLft) → IsSend (SharedCenter.the_row κ)
Center-shared-send κ = let a : IsSend (Held.the_row κ) = Held-send κ in search (sendable, crosses, shared_send, lease_send) depth 40 fits 20000

pub Center-shared-sync : (κ : NamedLft) → IsSync (SharedCenter.the_row κ)
Center-shared-sync κ = let a : IsSend (Held.the_row κ) = Held-send κ in search (sendable, crosses, shared_sync, lease_sync) depth 40 fits 20000
