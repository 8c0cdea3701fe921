mod FirstMembers
mod OneChannel
mod Rounds
