mod Carried
mod Ends
mod Looked
