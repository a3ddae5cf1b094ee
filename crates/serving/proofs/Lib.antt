mod Looked
mod OneMore
mod Prefixes
