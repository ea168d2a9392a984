mod HeldLists
mod MemberLists
mod WaitingLists
mod WalkedLists
